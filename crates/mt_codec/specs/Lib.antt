pub mod Fields
pub mod Spelling
pub mod Pieces
pub mod Reading
pub mod Readers
