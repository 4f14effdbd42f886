-- What is written of bytes, the byte of a pair of characters, a text of digits, what is readable and what is not, and that each public
-- function has one answer only.
pub mod Written
pub mod Pairs
pub mod AllDigits
pub mod Readable
pub mod OneAnswer
