-- The laws that several proofs of this crate cite.
pub mod Bitwise
pub mod Rotations
pub mod Groups
pub mod Made
pub mod Lengths
pub mod StepOne
pub mod OneAnswer
