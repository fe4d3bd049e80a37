pub mod ReadPieces
pub mod Written
pub mod lines
pub mod wholes
