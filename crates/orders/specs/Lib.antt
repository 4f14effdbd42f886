-- An order of calls, what the device would be along it, and how far the device is in step with that; orders without a restart; how a
-- counter grows, and which bytes are never touched.
pub mod Orders
pub mod Ledger
pub mod InStep
pub mod Schedules
pub mod Growing
pub mod Touched
