pub mod FlowHash
pub mod HexKey
pub mod Toeplitz
pub mod inside
