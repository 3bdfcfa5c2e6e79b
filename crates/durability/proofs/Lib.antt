pub mod Recovered
pub mod Transactions
pub mod Attempts
pub mod Cuts
pub mod Committed
pub mod Demand3
pub mod Days
pub mod Devices
