-- Frames that run whole: what is compared of a counter, and which frames are its own.
pub mod Compared
pub mod Reordering
