pub mod Price
pub mod Chain
pub mod Family
pub mod Pin
pub mod Least
pub mod Stay
pub mod Theorems
