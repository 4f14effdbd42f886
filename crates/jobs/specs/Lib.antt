-- The kinds of job.
pub mod Jobs
