pub mod Ends
pub mod Jobs
pub mod Serving
pub mod Servers
pub mod Running
