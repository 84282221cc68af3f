pub mod Items
pub mod Counts
pub mod Measured
pub mod Headers
pub mod Cursors
