pub mod Asking
pub mod Scripts
pub mod Passing
pub mod Lines
pub mod EachLine
pub mod Queues
