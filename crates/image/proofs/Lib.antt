-- Images by their layout, slots by their words and their front, and that each public function has one answer only.
pub mod Laid
pub mod Slots
pub mod OneAnswer
