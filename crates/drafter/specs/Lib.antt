pub mod Buffers
pub mod Locations
pub mod Cores
pub mod Edits
pub mod Signs
pub mod Calls
pub mod Views
pub mod States
