-- The laws of bytes stored one behind the other, of a flag as a byte, and that each public function has one answer only.
pub mod Codes
pub mod Runs
pub mod OneAnswer
pub mod RoundTrip
