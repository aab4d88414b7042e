mod Resting
mod Silence
