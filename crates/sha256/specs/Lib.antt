-- SHA-256 of one block, in the names, the order and the numbering of FIPS 180-4.
pub mod Functions
pub mod Constants
pub mod Block
