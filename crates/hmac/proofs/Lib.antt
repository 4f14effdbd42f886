-- The laws of a key's block and of the inner digest's, HMAC as a theorem about its four blocks, its length, and when the call is done.
pub mod KeyBlock
pub mod DigestBlock
pub mod FourBlocks
pub mod Lengths
pub mod Answered
pub mod OneAnswer
