-- Both ends together: the fields of a built frame, that it passes, what it leaves, that the reply to it is read as good, and all of
-- this of a device's calls.
pub mod Fields
pub mod Arrives
pub mod Passes
pub mod Carried
pub mod Agreed
pub mod Counted
pub mod Comes
pub mod Replies
pub mod BothEnds
