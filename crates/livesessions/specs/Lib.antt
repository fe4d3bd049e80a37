pub mod NumberedSessions
pub mod Lending
pub mod Behind
pub mod Watched
