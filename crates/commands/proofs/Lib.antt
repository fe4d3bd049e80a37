pub mod Running
pub mod Promises
pub mod Following
pub mod Serving
mod Returning
mod Sharing
