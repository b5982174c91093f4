pub mod Draws
pub mod Written
pub mod Generator
pub mod Laws
pub mod inner
