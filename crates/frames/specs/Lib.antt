-- The frames by their first byte, the table of the command frames, and what the read hands out.
pub mod Classes
pub mod Layout
pub mod Reading
