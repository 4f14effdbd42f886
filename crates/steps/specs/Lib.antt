-- One step of a job.
pub mod Ending
pub mod Deciding
pub mod Step
