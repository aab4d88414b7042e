pub mod Accepting
pub mod Archiving
pub mod Reading
pub mod Ready
