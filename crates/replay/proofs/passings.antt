-- Octets between a client and its session, round by round.
pub mod Passings
pub mod Settlings
pub mod Endings
