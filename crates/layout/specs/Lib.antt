pub mod Measures
pub mod Views
pub mod Headers
pub mod Cursors
pub mod Sessions
