pub mod Level
pub mod Trail
