pub mod Bytes
pub mod Lay
pub mod Exactly
