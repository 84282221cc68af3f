pub mod Decoded
pub mod Numbers
pub mod Words
pub mod Lines
pub mod Reads
pub mod Calls
