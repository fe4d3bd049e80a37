pub mod Counting
pub mod Making
pub mod Telling
pub mod Totals
pub mod Grammar
pub mod Rows
