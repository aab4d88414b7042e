pub mod Places
pub mod Front
pub mod Indexes
pub mod States
pub mod Whole
pub mod Verdicts
