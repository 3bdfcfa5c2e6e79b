pub mod Demand
pub mod Days
pub mod Devices
