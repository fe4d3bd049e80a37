pub mod Knowing
pub mod SameServices
pub mod Standing
pub mod Telling
