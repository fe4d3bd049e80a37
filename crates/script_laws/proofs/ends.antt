-- No message of a hub's client ends its session.
pub mod Words
pub mod Before
pub mod Passing
pub mod Telling
pub mod FedOnes
