pub mod Showing
pub mod Octets
pub mod Harmless
pub mod TypedAgain
