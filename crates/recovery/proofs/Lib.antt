pub mod Replay
pub mod Shown
