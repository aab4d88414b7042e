pub mod Answered
pub mod GoingOn
pub mod Jobs
pub mod Steps
