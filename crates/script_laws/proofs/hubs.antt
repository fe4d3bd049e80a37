-- Hubs to which calls lead, seats that calls aren't for, and worlds behind changes.
pub mod Reaching
pub mod Sound
pub mod Inside
pub mod Stops
pub mod Sessions
pub mod OwnEnds
pub mod OtherCalls
pub mod Others
pub mod Counting
pub mod HubNumbers
pub mod Words
pub mod WorldNumbers
pub mod Avoiding
pub mod Worlds
