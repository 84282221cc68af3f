pub mod Reading
pub mod Reads
pub mod Judges
