pub mod Words
pub mod Lines
pub mod Sizes
pub mod Calls
