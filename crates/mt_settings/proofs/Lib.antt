pub mod Reading
mod Moments
