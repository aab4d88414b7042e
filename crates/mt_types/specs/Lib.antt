pub mod Fields
pub mod Kinds
pub mod Limits
pub mod WellMade
pub mod Values
