pub mod Rows
pub mod Makes
