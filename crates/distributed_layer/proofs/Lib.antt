mod TogetherLemmas
mod LoopLemmas
mod SendLemmas
mod DeliverLemmas
mod AmidLemmas
mod AtLemmas
