pub mod Pins
pub mod LayerAfter
pub mod Reach
pub mod Layered
pub mod Theorems
