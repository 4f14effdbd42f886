-- The key words, a plan as a list of stores, stores in a counter's slot and their places, what a root key job's leave, and that each
-- public function has one answer only.
pub mod KeyWords
pub mod Plans
pub mod InSlot
pub mod Places
pub mod RootKeys
pub mod OneAnswer
