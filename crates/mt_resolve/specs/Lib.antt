pub mod Committing
pub mod Undo
pub mod Taking
pub mod Laws
