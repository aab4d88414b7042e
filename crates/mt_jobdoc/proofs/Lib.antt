pub mod Objects
pub mod PhaseLists
pub mod Faults
pub mod NoFloats
pub mod Documents
