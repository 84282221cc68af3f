pub mod Scanning
pub mod Prefixes
pub mod Promises
pub mod Windows
pub mod Tables
