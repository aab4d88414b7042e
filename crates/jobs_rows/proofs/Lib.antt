pub mod Stays
pub mod Sizes
pub mod Listed
