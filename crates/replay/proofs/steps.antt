-- Octets into a client and out of it, call by call.
pub mod StepTurns
pub mod DeliveryTurns
