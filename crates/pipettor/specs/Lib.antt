pub mod Said
pub mod Address
pub mod Byte
pub mod Controller
pub mod Valid
pub mod Returns
pub mod Listening
pub mod Lent
