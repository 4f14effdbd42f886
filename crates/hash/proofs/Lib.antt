-- The laws of padding, of messages that end in a short last block and of a digest's length, which the proofs here and the crates
-- above cite.
pub mod Answer
pub mod OneAnswer
pub mod OneBlock
pub mod Lengths
