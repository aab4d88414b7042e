pub mod Ends
pub mod Helping
pub mod Spooling
pub mod Streaming
pub mod Words
