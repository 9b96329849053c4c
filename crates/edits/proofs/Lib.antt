pub mod Watched
pub mod Told
pub mod Drew
pub mod Jobs
pub mod Texts
pub mod Scripts
