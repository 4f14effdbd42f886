-- The longest job, the types of the commands, and that each public function has one answer only.
pub mod Longest
pub mod Types
pub mod OneAnswer
