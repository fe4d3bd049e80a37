pub mod Shorter
pub mod Owing
pub mod Packing
pub mod Reacting
pub mod Giving
pub mod Rounds
