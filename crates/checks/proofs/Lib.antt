-- How the tables of checks hang together, and that each public function has one answer only.
pub mod LastChecks
pub mod OneAnswer
pub mod Failures
