-- The laws of words and of buffers filled from the front, which the crates above cite.
pub mod OneAnswer
pub mod Unique
pub mod Spread
pub mod Back
pub mod Choice
pub mod Rows
pub mod Filling
pub mod Inside
pub mod Table
pub mod Fields
pub mod Puts
pub mod Runs
