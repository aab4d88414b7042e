pub mod Decoding
pub mod FineWords
pub mod LivePaths
pub mod Markers
pub mod Targets
pub mod TextBytes
