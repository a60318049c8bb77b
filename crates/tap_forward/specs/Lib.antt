pub mod Forwards
pub mod Senders
pub mod Forwarders
pub mod ForwardersInside
pub mod Bridges
