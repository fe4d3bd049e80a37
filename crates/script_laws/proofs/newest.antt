-- After a settle that printed its line alone, `show` tells the newest records.
pub mod Arrival
pub mod Showing
pub mod Settled
pub mod Promises
