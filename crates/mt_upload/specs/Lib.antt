pub mod Shown
pub mod UploadList
