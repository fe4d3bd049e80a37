pub mod Feeds
pub mod Ledgers
pub mod Inside
pub mod Sharing
pub mod Registers
