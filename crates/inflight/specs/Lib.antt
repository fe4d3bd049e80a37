pub mod Messages
pub mod Ends
pub mod Flight
pub mod Holding
pub mod Worked
pub mod RefusedWorlds
