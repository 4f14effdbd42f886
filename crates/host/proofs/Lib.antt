-- The laws of the host end, and that each public function has one answer only.
pub mod Front
pub mod Accepted
pub mod Signed
pub mod Verdicts
pub mod OneAnswer
