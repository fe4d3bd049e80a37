-- What a script leaves stands for the plain world behind it.
pub mod EndsStand
pub mod EndsKept
