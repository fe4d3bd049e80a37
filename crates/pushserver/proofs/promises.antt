-- What the calls promise beyond their answers.
pub mod Outputs
pub mod Answers
pub mod AllTold
pub mod Shown
