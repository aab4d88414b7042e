pub mod Read
pub mod Written
pub mod Laws
pub mod Certificate
pub mod Worked
