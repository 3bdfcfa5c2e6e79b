pub mod Columns
pub mod Writing
pub mod Reading
pub mod Editing
pub mod Shape
pub mod Examples
