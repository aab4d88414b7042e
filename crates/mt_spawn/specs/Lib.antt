pub mod Children
pub mod Memory
pub mod Orders
pub mod Parts
pub mod SpoolMemory
pub mod Spools
