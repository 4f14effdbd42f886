-- The two ends of an arrival, and that each public function has one answer only.
pub mod Arrives
pub mod OneAnswer
