pub mod BitLemmas
pub mod VoteLemmas
pub mod CountLaws
pub mod GraphLaws
