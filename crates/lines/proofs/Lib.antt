pub mod Integers
pub mod Levels
pub mod Lines
pub mod Areas
