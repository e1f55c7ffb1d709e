pub mod Tasks
pub mod Frames
pub mod Controllers
pub mod Bytes
pub mod Keeps
pub mod Listening
pub mod Returning
