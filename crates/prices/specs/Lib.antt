pub mod Price
pub mod Count
pub mod CountThenArea
