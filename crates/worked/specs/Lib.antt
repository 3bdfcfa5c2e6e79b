pub mod Row
pub mod Rows
pub mod CostRows
pub mod EmptyRows
pub mod HeightRows
