pub mod Asking
pub mod Counts
pub mod Noting
pub mod AskedAt
pub mod Questions
pub mod Ids
mod Ordered
mod Again
