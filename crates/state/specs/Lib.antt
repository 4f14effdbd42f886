-- The state of the device, what the power-on state is, and refusal 4.
pub mod Parts
pub mod Refusal
