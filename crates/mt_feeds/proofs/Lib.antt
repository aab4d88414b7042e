pub mod Lookups
pub mod Feeds
pub mod Laid
pub mod Read
pub mod Opened
pub mod Begun
pub mod Entered
