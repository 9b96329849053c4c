pub mod Text
pub mod Pack
