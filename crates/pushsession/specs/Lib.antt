pub mod Sessions
pub mod Subscribing
pub mod Reactions
pub mod Kept
pub mod Requests
pub mod Laws
pub mod Worked
pub mod Watched
