pub mod Document
pub mod Printed
