pub mod Choice
pub mod LogImage
pub mod LogState
pub mod Places
pub mod RunState
pub mod Scan
pub mod Opening
pub mod Stage
