-- The ten checks that a taken OP1 frame meets, and the status that each failure posts.
pub mod Checks
pub mod Failures
