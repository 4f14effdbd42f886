-- The laws of the steps left, what a call leaves, and that each public function has one answer only.
pub mod Left
pub mod AfterCalls
pub mod OneAnswer
