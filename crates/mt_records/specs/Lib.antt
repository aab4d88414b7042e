pub mod Fate
pub mod Heads
pub mod Laws
pub mod Records
pub mod Seen
pub mod Windows
