pub mod DrillLine
pub mod DrillWords
pub mod Drilled
pub mod Ends
pub mod Logs
