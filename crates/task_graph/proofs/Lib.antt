mod BitLemmas
mod Trees
mod Soundness
mod Ways
mod MaskLemmas
mod NeedLemmas
mod WordLemmas
mod Growth
