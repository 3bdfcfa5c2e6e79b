pub mod Layout
pub mod Page
pub mod Operations
pub mod Search
pub mod PageFormat
