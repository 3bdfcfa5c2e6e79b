pub mod Tape
pub mod Cut
pub mod Says
pub mod Calls
pub mod Counts
