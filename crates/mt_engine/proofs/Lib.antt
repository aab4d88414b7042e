pub mod Accepts
pub mod Archives
pub mod Ends
pub mod Objects
pub mod Runs
pub mod Stores
