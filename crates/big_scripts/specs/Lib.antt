pub mod Scripts
pub mod Sums
pub mod Replies
