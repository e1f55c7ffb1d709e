pub mod Rules
pub mod Choice
pub mod Lists
pub mod Over
pub mod Digits
pub mod Laying
