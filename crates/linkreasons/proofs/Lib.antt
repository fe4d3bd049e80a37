pub mod FoundEntries
pub mod GoingKeys
pub mod PlainQuestions
pub mod Spelling
pub mod Following
pub mod Tally
mod OneLink
mod ManyLinks
mod SessionParts
mod Seats
mod RowParts
mod PoppedRows
mod Changes
mod Whole
mod OneAsked
mod Calls
