pub mod Taking
pub mod Store
pub mod Visiting
pub mod Counting
pub mod Printing
