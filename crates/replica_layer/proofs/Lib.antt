mod NextLemmas
mod AtLemmas
