pub mod Leading
pub mod Saying
pub mod Giving
pub mod Emitting
pub mod Passing
pub mod Exchanging
