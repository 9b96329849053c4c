pub mod Share
pub mod Link
pub mod Family
pub mod Row
pub mod Report
pub mod Text
