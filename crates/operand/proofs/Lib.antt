pub mod Runs
pub mod Longest
pub mod Spelling
pub mod Begins
pub mod Counting
pub mod Reading
