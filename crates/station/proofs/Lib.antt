pub mod Signs
pub mod Serving
pub mod Raw
pub mod Wrapping
