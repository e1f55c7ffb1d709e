pub mod Events
pub mod Bodies
pub mod Detect
pub mod Motion
pub mod Bounds
