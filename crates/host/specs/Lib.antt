pub mod Host
pub mod Session
pub mod Door
