-- That the calls on the hub that is kept do what they do to the plain hub that it stands for.
pub mod Pairs
pub mod Pasts
pub mod Standing
pub mod Falling
pub mod Names
pub mod Noted
pub mod Queued
pub mod Entering
pub mod Cases
pub mod Calls
pub mod Forgetting
pub mod Reacting
pub mod Giving
