pub mod Documents
pub mod States
