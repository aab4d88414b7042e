mod Fronts
mod Firsts
mod Ordered
mod Followed
mod Certified
mod Runs
mod Cuts
pub mod WrittenTexts
mod Fed
mod Places
mod Opened
mod KeptLines
mod Judgements
mod LinePieces
mod Told
