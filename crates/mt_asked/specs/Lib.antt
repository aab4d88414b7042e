pub mod Laws
pub mod Understood
