pub mod Thinned
pub mod Laws
pub mod inner
