pub mod Grade
pub mod Price
pub mod Row
pub mod Terms
