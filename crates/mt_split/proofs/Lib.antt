pub mod Cuts
pub mod Laid
pub mod Whole
