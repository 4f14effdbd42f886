-- A frame run whole changes its own counter alone, and by what is compared of it alone; so counters do not disturb each other.
pub mod Counters
pub mod Own
pub mod WholeOwn
pub mod Unseen
pub mod Cuts
pub mod Alikes
pub mod Growing
pub mod InARow
pub mod CountersApart
