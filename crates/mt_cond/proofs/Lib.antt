pub mod Answered
pub mod Found
pub mod Joined
pub mod JudgedRead
pub mod RangeTexts
pub mod TagTexts
