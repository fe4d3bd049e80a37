-- A session at rest, and its octets in pieces.
pub mod AtRest
pub mod RanLaws
pub mod RestingExchanges
pub mod RestingStreams
pub mod RestingAnswers
pub mod RestingPieces
pub mod RestingGives
pub mod RestingHubs
pub mod Turning
pub mod StreamCounts
pub mod EveryCut
pub mod EveryScriptCut
