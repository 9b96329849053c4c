pub mod ChainLists
pub mod Octets
pub mod Writing
