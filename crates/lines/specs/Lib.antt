pub mod Columns
pub mod Form
pub mod Listing
