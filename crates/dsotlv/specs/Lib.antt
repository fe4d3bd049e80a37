pub mod TlvKinds
pub mod Messages
pub mod Answers
pub mod Notices
pub mod Spelling
pub mod Giving
pub mod Laws
pub mod Faults
