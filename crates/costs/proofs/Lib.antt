pub mod Quote
pub mod Lines
pub mod Tapes
