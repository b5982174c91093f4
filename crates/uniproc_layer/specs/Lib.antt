pub mod Uni
