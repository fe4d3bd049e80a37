pub mod Endings
pub mod Owners
