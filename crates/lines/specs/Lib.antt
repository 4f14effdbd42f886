-- The lines of rpmcrun: the turn of each, what splits an input into lines, and what the program starts with.
pub mod Turn
pub mod Feeding
pub mod Start
