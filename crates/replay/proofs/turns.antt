-- Bounds on turns and sizes.
pub mod Turns
pub mod TurnSizes
pub mod ZoneSizes
pub mod StartSizes
pub mod ReplySizes
pub mod QuerySizes
pub mod SendSizes
