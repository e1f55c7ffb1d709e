pub mod Lines
pub mod Pairs
pub mod Words
pub mod Written
pub mod Forms
