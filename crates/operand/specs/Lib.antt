pub mod Text
pub mod Begins
pub mod Number
pub mod Steps
