pub mod Scans
pub mod Walks
pub mod Prefixes
pub mod Tables
pub mod Parts
pub mod Times
