pub mod Answers
pub mod Joining
pub mod Shown
pub mod Demand2
pub mod NeverTen
