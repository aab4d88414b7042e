pub mod World
pub mod Lives
pub mod Worked
