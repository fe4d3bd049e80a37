pub mod Words
pub mod ScriptCommands
pub mod Runs
pub mod Status
pub mod Command
pub mod Subscribing
pub mod Observed
pub mod Serving
