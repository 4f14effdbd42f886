-- That comparing a signature's words is comparing its bytes, and that each public function has one answer only.
pub mod OneAnswer
pub mod ByWords
