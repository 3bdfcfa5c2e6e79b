pub mod Quote
pub mod Tapes
