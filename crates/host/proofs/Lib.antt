pub mod Calls
pub mod Back
pub mod Just
pub mod Sessions
pub mod Strays
pub mod Codes
pub mod Doors
