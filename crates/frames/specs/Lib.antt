pub mod Frame
pub mod Refused
pub mod Limits
pub mod Listening
pub mod Passes
pub mod Grammar
pub mod Tips
