-- The texts of rpmcrun's lines: the numbers in them, and what is printed.
pub mod Numbers
pub mod Printing
