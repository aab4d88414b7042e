pub mod Clocks
pub mod Doors
pub mod Memory
pub mod MemoryDoor
pub mod Stream
