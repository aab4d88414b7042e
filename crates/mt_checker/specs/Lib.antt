pub mod Stages
pub mod Judge
pub mod Texts
pub mod Feeds
pub mod Sheets
pub mod Kept
pub mod Sources
