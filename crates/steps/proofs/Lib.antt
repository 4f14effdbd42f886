-- The laws of one more step, that a job goes on, what a step keeps of it, what a step stores, that it leaves less of a job, and that each public function has one answer only.
pub mod Advancing
pub mod AfterCheck
pub mod Going
pub mod Keeps
pub mod StoreSteps
pub mod Less
pub mod OneAnswer
