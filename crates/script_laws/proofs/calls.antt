-- Lines are calls of the hub, and what is so of each message in them.
pub mod Emitting
pub mod Lines
pub mod Messages
pub mod EachTurn
pub mod InTurn
pub mod GivesOn
pub mod Exchanging
pub mod Exchanges
pub mod EachCall
pub mod Others
pub mod Served
pub mod Fits
pub mod Reacted
pub mod Sends
pub mod Worked
pub mod FirstOnes
