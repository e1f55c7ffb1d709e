pub mod Digits
pub mod Scratch
