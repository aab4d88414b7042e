pub mod Left
pub mod Messages
pub mod Work
