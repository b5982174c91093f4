mod CandidateLemmas
mod MiddleLemmas
