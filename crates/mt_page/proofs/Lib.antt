pub mod PageLines
pub mod PageRows
