-- A command frame that arrives while the device is idle.
pub mod Arrival
