pub mod Digests
pub mod Limits
pub mod Ordered
pub mod Types
