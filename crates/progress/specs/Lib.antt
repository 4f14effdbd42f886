-- How many steps a frame takes, and which bytes a job spares.
pub mod Steps
pub mod Spared
