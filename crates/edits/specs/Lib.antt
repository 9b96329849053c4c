pub mod Edit
pub mod Perform
pub mod Job
pub mod Text
pub mod Script
