pub mod Eaten
