pub mod Blank
pub mod Few
pub mod Set
