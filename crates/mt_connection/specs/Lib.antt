pub mod Sides
pub mod Transcript
pub mod Outcomes
pub mod Endings
pub mod Steps
pub mod Accepted
