-- The counter image: document 01's section of that name, and refusals 1 to 3.
pub mod Header
pub mod Slot
pub mod Refusal
pub mod Laid
