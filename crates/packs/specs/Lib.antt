pub mod Bytes
pub mod Record
pub mod Kind
pub mod Job
