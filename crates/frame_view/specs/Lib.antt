pub mod Built
pub mod ByteForms
pub mod Headers
pub mod InternetChecksum
pub mod Numbers
pub mod PlainPacket
pub mod Tags
pub mod Vlan
