-- What the page says of a frame: that its ten checks are those on arrival and then the last ones, what a frame that passes has met,
-- what a frame leaves alone, and that one that is too short fails.
pub mod TenChecks
pub mod Taken
pub mod Kept
pub mod TooShort
pub mod Passed
