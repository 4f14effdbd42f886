-- The whole-frame rules, a page; and what frames start from.
pub mod Whole
pub mod Formed
