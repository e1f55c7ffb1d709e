pub mod Way
pub mod Ends
pub mod Keeps
pub mod Trail
