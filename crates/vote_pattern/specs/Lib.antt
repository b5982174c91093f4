pub mod Votes
pub mod Laws
pub mod inner
