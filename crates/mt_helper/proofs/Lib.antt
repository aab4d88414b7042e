pub mod Fits
pub mod Made
pub mod Paths
pub mod Ran
pub mod Reading
pub mod Spools
pub mod Streamed
pub mod Streams
