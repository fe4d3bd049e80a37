-- What is shown of a question, word by word.
pub mod ShowTexts
pub mod SeatShows
