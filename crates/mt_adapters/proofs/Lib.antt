mod Front
mod Heads
mod Kept
