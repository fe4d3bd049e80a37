pub mod Said
pub mod Standing
pub mod Turning
pub mod Subscribed
pub mod EveryCut
pub mod Worked
