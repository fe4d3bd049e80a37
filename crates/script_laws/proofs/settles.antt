pub mod Silence
pub mod Fronts
pub mod StillRounds
pub mod Stops
pub mod Settling
