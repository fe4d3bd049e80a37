pub mod Behind
pub mod Emitted
pub mod Passed
