pub mod Limits
pub mod Rounding
pub mod Motion
pub mod Table
