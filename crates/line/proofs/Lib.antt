pub mod Lines
pub mod Answers
pub mod Answering
pub mod Receiving
pub mod Framed
pub mod Sums
pub mod OemFrames
