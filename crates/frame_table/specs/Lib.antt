pub mod Tasks
pub mod Plan
pub mod Values
