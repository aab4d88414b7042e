mod Asking
mod Heads
mod LivePlaces
mod Looks
mod Refusing
mod Standing
