pub mod Conditions
pub mod Laws
pub mod Range
pub mod Tags
