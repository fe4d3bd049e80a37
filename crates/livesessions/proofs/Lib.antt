pub mod SessionLists
pub mod LentSessions
pub mod NumberedSessions
pub mod NotedSessions
pub mod Watched
