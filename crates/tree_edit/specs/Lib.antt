pub mod Steps
pub mod Asked
