pub mod State
pub mod Edits
pub mod Whole
pub mod Grounds
pub mod Good
pub mod NewPages
pub mod Reasons
pub mod Moved
