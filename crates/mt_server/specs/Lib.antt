pub mod Lines
pub mod Statuses
pub mod Events
pub mod Guarantees
pub mod Visiting
pub mod Running
pub mod Chains
