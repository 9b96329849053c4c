pub mod Lines
pub mod Numbers
pub mod Words
pub mod Signed
