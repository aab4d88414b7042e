pub mod ReplyFields
pub mod Replies
