-- The host end: the frames that it builds, and what it reads in a reply.
pub mod Frames
pub mod Building
pub mod Reading
