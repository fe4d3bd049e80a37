-- That each rule does to a session as it is kept what it does to the plain one.
pub mod Lists
pub mod OldValues
pub mod Rising
pub mod Since
pub mod Octets
pub mod Parts
pub mod Standing
pub mod LettingGo
pub mod Saying
pub mod Reactions
pub mod Names
pub mod Nets
pub mod Packing
pub mod FirstAnswers
pub mod Accepting
