pub mod Attempts
pub mod Valid
pub mod Chains
pub mod LifeWorked
