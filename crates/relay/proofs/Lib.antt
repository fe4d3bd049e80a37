pub mod Adding
pub mod Messages
pub mod Taken
pub mod Accepting
pub mod Counts
