pub mod Configurations
pub mod Kept
pub mod Worked
