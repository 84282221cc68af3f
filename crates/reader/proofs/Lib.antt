pub mod Good
pub mod Promises
