pub mod Asked
pub mod ByName
pub mod Named
pub mod Numbers
pub mod Watching
