-- The refusals and their numbers: document 01's table.
pub mod Numbers
