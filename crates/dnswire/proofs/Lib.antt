pub mod Rows
pub mod Sections
pub mod Strings
pub mod Fields
pub mod Entries
pub mod Messages
pub mod WrittenUpdates
pub mod RecordSizes
