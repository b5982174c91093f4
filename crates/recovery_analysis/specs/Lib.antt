pub mod Graphs
pub mod Steps
pub mod Verdict
pub mod Laws
pub mod inner
