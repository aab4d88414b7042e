pub mod Added
pub mod Appended
mod Fronts
pub mod Laying
mod Made
pub mod Others
pub mod Places
pub mod Records
pub mod Running
pub mod Sizes
pub mod Standing
pub mod Staged
pub mod Told
pub mod Walks
mod Scans
mod Settling
mod Windows
