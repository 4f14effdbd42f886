-- HMAC with SHA-256: FIPS 198-1, the four blocks that it takes, and document 01's answer.
pub mod Hmac
pub mod Quarters
pub mod Answer
