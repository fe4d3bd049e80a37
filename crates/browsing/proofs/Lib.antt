pub mod Reactions
pub mod Folding
pub mod Telling
pub mod Machine
