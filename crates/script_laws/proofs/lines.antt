-- What lines do to a world that stands, line by line.
pub mod Premises
pub mod ReadLines
pub mod Following
pub mod Starting
pub mod Cutting
pub mod Knowing
pub mod Passing
pub mod Asking
pub mod Opening
pub mod Moments
pub mod Sending
pub mod Walking
pub mod Growing
pub mod EachLine
