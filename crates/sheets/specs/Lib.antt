pub mod Levels
pub mod Settings
pub mod Sheet
pub mod Promise
pub mod Memory
pub mod Call
pub mod Numbers
pub mod History
