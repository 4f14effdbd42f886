-- SHA-256 of a whole message: FIPS 180-4, sections 5.1.1, 5.2.1 and 6.2, and document 01's answer.
pub mod Padding
pub mod Sha256
pub mod Answer
