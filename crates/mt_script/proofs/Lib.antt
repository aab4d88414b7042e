mod Names
mod Settling
mod Showing
