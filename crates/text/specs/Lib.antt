pub mod Text
pub mod Data
pub mod Loops
pub mod Inside
