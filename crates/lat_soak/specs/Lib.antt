pub mod Sponges
