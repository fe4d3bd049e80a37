-- Reading lines and scripts.
pub mod SameWords
pub mod ClientLines
pub mod Joined
pub mod Pieces
pub mod Readers
pub mod LineWords
pub mod Splits
pub mod Numbers
pub mod ChangedPlaces
pub mod NamedLinks
pub mod MoreLines
pub mod HeadTaken
pub mod LineByLine
pub mod SentOctets
pub mod Octets
pub mod OneWord
pub mod PlacesKept
