pub mod Bodies
pub mod Held
pub mod Histories
pub mod Loading
pub mod Looks
pub mod Openings
pub mod Stretches
pub mod Taking
