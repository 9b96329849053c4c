pub mod Drawn
pub mod Exact
pub mod Loops
pub mod Showing
