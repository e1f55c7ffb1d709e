pub mod Counts
pub mod Hex
pub mod Desk
pub mod Forms
