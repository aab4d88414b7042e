pub mod Device
pub mod Heads
pub mod Turns
pub mod Wires
