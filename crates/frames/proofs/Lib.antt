-- What holds of the frame table, the numbers of each class, what a busy read shows, and that each public function has one answer only.
pub mod Layouts
pub mod Classes
pub mod Reading
pub mod OneAnswer
