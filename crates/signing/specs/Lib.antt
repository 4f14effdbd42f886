-- The hash steps of a job.
pub mod Signing
pub mod Hashed
