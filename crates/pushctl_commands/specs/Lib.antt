pub mod Lateness
pub mod Statuses
