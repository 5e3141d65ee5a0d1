mod Turns
mod Routes
mod Cuts
mod Whys
mod Appending
