pub mod Calendar
pub mod DateTexts
pub mod DigestTexts
pub mod IdentifierOrder
pub mod IdentifierTexts
pub mod JiffDates
pub mod Moments
