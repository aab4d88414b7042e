pub mod Current
pub mod History
pub mod Looking
pub mod Opening
pub mod Places
