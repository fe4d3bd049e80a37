pub mod Arrived
pub mod HeldSets
pub mod Shows
pub mod Mirrors
pub mod Along
pub mod NeverBack
pub mod WhatIsHeld
pub mod Replies
