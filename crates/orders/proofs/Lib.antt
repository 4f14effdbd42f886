-- Along any order of calls the device is as if the frames that found it idle had run whole; its counters grow, and what is not theirs
-- is never touched; and without a restart frames of different counters commute.
pub mod Orders
pub mod Sound
pub mod SameSteps
pub mod Interrupted
pub mod Calls
pub mod Ledger
pub mod ItEnds
pub mod Growing
pub mod Monotonic
pub mod Counting
pub mod Counts
pub mod Touched
pub mod Schedules
pub mod Commutes
