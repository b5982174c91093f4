pub mod Together
pub mod State
pub mod Comparing
pub mod Laws
pub mod inner
