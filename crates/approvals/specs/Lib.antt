pub mod Approvals
pub mod Speaking
