pub mod Places
pub mod Parts
pub mod Cells
pub mod Grades
pub mod Filling
pub mod PriceCells
