pub mod Putting
pub mod Numbers
pub mod Jobs
pub mod JobTrips
pub mod Chains
pub mod Counts
pub mod Families
pub mod FamilyTrips
