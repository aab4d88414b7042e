pub mod References
pub mod Undone
pub mod Back
pub mod Parents
pub mod Fronts
pub mod Taken
pub mod Ready
pub mod FolderNames
