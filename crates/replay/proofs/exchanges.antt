-- Octets to a session and back, call by call.
pub mod Walks
pub mod Filling
pub mod Emitting
pub mod Taking
pub mod Rounds
