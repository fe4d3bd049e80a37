-- A SUBSCRIBE that a new session accepts.
pub mod Answering
pub mod LastSession
pub mod LastAnswering
pub mod LastGiving
pub mod OnePeer
pub mod NewPeer
pub mod Serving
pub mod WorkedServing
