mod Fillings
mod Joinings
mod Runs
