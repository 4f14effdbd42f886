-- Checks 8 to 10, made in the last step of a signature check.
pub mod Signature
pub mod Place
pub mod Decision
