pub mod Causes
pub mod Exchanges
pub mod Inputs
pub mod Listings
pub mod Once
pub mod Requests
pub mod Runs
