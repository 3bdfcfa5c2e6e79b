pub mod Open
pub mod Short
pub mod Updates
pub mod Claim
pub mod Costs
pub mod Empty
pub mod Heights
