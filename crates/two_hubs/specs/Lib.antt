pub mod HalfLaws
pub mod Carrying
pub mod RelayLaws
pub mod WholeReplies
pub mod Relaying
