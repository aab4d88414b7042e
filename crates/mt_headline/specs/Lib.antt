pub mod Gets
pub mod Headline
pub mod Position
pub mod Refusals
pub mod Runs
pub mod Worked
