-- Scripts that may have a second hub.
pub mod Named
pub mod Lines
pub mod Growing
pub mod Taken
pub mod OneHub
pub mod WholeReaders
pub mod Carried
