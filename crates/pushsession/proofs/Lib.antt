pub mod Accepting
pub mod Ends
pub mod Numbers
pub mod Passing
pub mod SessionLaws
pub mod WatchMoves
