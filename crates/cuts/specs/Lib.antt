pub mod All
pub mod Calls
pub mod Says
pub mod Products
