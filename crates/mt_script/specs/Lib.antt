pub mod Ends
pub mod Laws
pub mod Levels
pub mod Script
