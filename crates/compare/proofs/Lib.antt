-- That no bit differs exactly when the bytes are the same, be they compared one by one or in words, that the pairs taken in turn
-- give every bit that differs, and that there is one answer only.
pub mod Agree
pub mod ByWords
pub mod Gathered
pub mod OneAnswer
