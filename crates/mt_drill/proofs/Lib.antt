pub mod Empty
pub mod Outputs
pub mod Lines
pub mod Made
pub mod Reading
pub mod Behind
pub mod Served
