pub mod Collecting
pub mod Rows
pub mod Sounding
