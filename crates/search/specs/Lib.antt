pub mod Held
pub mod Walk
pub mod Search
pub mod Next
