pub mod Course
pub mod Order
