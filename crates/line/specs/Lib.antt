pub mod Bytes
pub mod Heard
pub mod Dt
pub mod Oem
pub mod Wire
pub mod Answer
