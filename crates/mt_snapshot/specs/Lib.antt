pub mod Values
pub mod Records
pub mod Readers
pub mod Listing
