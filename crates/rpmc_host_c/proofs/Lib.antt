-- That each exported entry has one answer only, and what the reader's two say of a good reply.
pub mod OneAnswer
pub mod Verdicts
