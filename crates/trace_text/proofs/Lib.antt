mod PieceLemmas
mod VoteLemmas
mod LineExamples
mod DigitLemmas
mod LineLemmas
