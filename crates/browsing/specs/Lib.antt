pub mod Showing
pub mod Browsing
