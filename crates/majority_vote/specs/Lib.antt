pub mod Candidate
pub mod Middle
