pub mod Within
pub mod Commands
pub mod Each
