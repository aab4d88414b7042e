pub mod FedJob
pub mod Opening
pub mod Reading
