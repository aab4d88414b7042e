pub mod Answer
pub mod Areas
pub mod AreaRows
pub mod Keys
pub mod Lent
pub mod Plain
pub mod Walk
