pub mod Fault
pub mod Vertex
pub mod Line
pub mod Level
pub mod Area
