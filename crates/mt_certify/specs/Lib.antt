pub mod Certified
pub mod CertifyWords
