-- The laws of a device's run, that it comes to the whole-frame page, and after how many steps.
pub mod Runs
pub mod Hashing
pub mod Stores
pub mod Jobs
pub mod Enabled
pub mod Ends
pub mod Storing
pub mod Ended
pub mod Checked
pub mod RunsWhole
pub mod Steps
pub mod Kept
pub mod Adds
