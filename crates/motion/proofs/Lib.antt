pub mod Moves
pub mod Within
pub mod Keeps
