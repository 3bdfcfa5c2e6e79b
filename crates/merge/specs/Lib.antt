pub mod Tables
pub mod Leaves
pub mod Calls
pub mod Says
pub mod Cursors
