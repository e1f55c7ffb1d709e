pub mod Filling
pub mod Lines
pub mod Program
