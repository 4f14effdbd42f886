-- What the proofs share, how the refusals hang together, and that each public function has one answer only.
pub mod Inside
pub mod Running
pub mod OneAnswer
pub mod Refused
