pub mod AsCommitted
