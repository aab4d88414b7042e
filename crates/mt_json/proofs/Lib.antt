mod Again
mod FirstLines
pub mod Kept
pub mod LineParts
mod LineTexts
mod Values
