-- The rest of a line, as the code takes it; that a frame and a read leave the image; that no line above 514 characters is known, that an
-- input is answered line by line however it comes, and that each public function has one answer only.
pub mod Turns
pub mod Prefix
pub mod TooLong
pub mod Feeding
pub mod Newline
pub mod Kept
pub mod Hearing
pub mod Session
pub mod OneAnswer
