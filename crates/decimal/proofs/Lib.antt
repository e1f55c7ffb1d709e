pub mod Digits
pub mod Trim
pub mod Written
pub mod PlaceValue
pub mod Examples
