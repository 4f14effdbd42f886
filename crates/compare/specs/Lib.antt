-- The comparison of secrets.
pub mod Compare
