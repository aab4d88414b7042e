pub mod Partition
pub mod Spans
