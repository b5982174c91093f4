mod PlaceLemmas
mod ComputingLemmas
mod VotingLemmas
mod SeatLemmas
mod StepLemmas
