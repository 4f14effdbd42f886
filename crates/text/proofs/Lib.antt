-- That four digits are no number, the line of a read that fits, and that each public function has one answer only.
pub mod FourDigits
pub mod Fits
pub mod OneAnswer
