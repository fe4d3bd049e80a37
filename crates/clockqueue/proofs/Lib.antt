pub mod Ordered
pub mod Keyed
pub mod Firsts
pub mod Halves
pub mod Joined
pub mod Queued
pub mod Sizes
