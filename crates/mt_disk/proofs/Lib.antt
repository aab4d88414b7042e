pub mod FileLemmas
mod Entries
pub mod Moments
pub mod Readings
mod Pasts
mod Torn
