-- Words, bytes, tables and choices: what every other crate's definitions are made of.
pub mod Choice
pub mod Rows
pub mod Table
pub mod Words
