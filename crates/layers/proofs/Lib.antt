pub mod Listing
pub mod Pinning
pub mod Grading
pub mod Pinned
