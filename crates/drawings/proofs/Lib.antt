pub mod Shown
pub mod Jobs
