pub mod Map
pub mod Others
