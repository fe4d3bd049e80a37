pub mod Shown
pub mod Typed
pub mod Addresses
pub mod Laws
