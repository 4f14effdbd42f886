-- The state of the device as 383 bytes, and back: for tests only.
pub mod Codes
pub mod Unpacked
pub mod Packed
pub mod Stored
