pub mod Dates
pub mod Digests
pub mod Identifiers
