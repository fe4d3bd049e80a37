pub mod AllReasons
pub mod Changing
pub mod Counting
pub mod Laws
pub mod Tallies
