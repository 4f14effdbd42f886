-- The device: its calls, the state and every lent byte after them.
pub mod Frame
pub mod Work
pub mod Calls
