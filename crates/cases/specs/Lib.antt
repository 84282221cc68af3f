pub mod Outcome
pub mod Case
pub mod Samples
pub mod Cases
