-- Octets come down to a client, and a client is asked for something, is connected and is cut.
pub mod Connected
pub mod Octets
pub mod Wishes
pub mod Points
pub mod Stops
pub mod Asking
pub mod Opening
pub mod Cutting
pub mod Stepping
pub mod Delivering
