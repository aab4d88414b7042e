pub mod Certifying
pub mod Accepting
pub mod Putting
pub mod Reading
pub mod Writing
pub mod Laying
pub mod Seen
