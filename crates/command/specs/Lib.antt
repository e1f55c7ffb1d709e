pub mod Verdict
pub mod Found
pub mod Table
pub mod Command
pub mod Numbers
pub mod Allowed
