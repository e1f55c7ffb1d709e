pub mod Held
pub mod Serve
