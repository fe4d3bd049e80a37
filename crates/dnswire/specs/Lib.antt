pub mod Reading
pub mod Gives
pub mod Spelling
pub mod Writing
