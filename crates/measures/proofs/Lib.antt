pub mod Products
pub mod AllNear
pub mod Distances
pub mod Grades
pub mod First
