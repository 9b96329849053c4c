pub mod LineTrips
pub mod NumberTrips
pub mod WordTrips
pub mod SignedTrips
pub mod Solid
