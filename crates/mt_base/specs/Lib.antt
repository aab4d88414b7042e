pub mod Blanks
pub mod Counts
pub mod Lists
pub mod Numbers
