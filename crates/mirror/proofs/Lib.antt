pub mod Questions
pub mod Entries
pub mod AfterNotices
pub mod Asked
pub mod Changing
