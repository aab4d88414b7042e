pub mod CallLaws
pub mod Calls
pub mod CrashModel
pub mod Entries
pub mod Files
pub mod MemState
