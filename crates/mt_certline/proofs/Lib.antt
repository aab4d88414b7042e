mod Digests
mod Shown
mod Plain
mod Kept
mod Logins
mod PhasesAgain
pub mod LinesAgain
mod LineTexts
mod Showable
mod WorkedOut
