-- What lone clients are fed.
pub mod WaitingCalls
pub mod FedClients
pub mod LoneSeats
pub mod FedTexts
pub mod WorkedFeeds
