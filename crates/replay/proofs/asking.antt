pub mod Places
pub mod Turns
pub mod Loop
pub mod Lines
pub mod Ordered
