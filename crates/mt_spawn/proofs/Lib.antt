pub mod PartBytes
pub mod Seen
pub mod SpoolBytes
