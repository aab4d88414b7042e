pub mod ErrorTable
pub mod Refusals
