-- The four frames that a host builds, and what lets them through; and an exchange of a host and a device.
pub mod Built
pub mod Exchange
