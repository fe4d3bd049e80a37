pub mod TakenLines
pub mod Granted
pub mod Starts
pub mod HeadLines
pub mod Feeds
pub mod Addresses
pub mod WorkedLines
