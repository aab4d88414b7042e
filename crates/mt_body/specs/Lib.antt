pub mod Filling
pub mod Growth
pub mod Sending
pub mod Stored
pub mod Storing
