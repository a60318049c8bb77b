pub mod Places
pub mod Givings
pub mod Sends
pub mod Forwards
pub mod Bridged
pub mod PlainRequests
