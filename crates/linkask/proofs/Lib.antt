pub mod Pauses
pub mod Sizes
pub mod Tests
pub mod Due
pub mod Order
pub mod Asked
pub mod KeptOrder
pub mod FirstDue
pub mod Asking
pub mod Keeping
pub mod Lowering
mod AtOne
mod ReasonSteps
