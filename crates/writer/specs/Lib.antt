pub mod Put
pub mod Job
pub mod Family
