pub mod Error
pub mod Statement
pub mod Draft
pub mod Text
pub mod Pack
pub mod Unpack
