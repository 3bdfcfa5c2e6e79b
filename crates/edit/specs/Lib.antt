pub mod EditList
pub mod Ledger
pub mod Judged
pub mod Reads
pub mod Keys
