pub mod Receiver
pub mod Progress
pub mod Sound
pub mod Image
