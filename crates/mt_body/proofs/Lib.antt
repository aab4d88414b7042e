pub mod Cuts
pub mod Keeping
mod Buffers
mod Parts
mod Readings
mod Sendings
mod Storings
