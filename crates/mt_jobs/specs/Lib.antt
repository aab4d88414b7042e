pub mod Shown
pub mod JobList
pub mod Archive
pub mod Committed
pub mod Queues
pub mod Pages
pub mod Listed
