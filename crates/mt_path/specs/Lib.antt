pub mod AccountPath
pub mod Keys
pub mod Names
pub mod PathOrder
