-- What homes show can be told: at the start, after each entry.
pub mod Shaped
pub mod Entered
pub mod Fitting
pub mod HeardRows
pub mod Told
pub mod Updated
pub mod Histories
pub mod HubTells
pub mod Replied
pub mod Hubs
