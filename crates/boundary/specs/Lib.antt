pub mod Outcomes
pub mod Rows
pub mod Hands
pub mod Says
pub mod Trusted
pub mod Settings
