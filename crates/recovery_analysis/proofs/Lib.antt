mod StepLemmas
mod GatherLemmas
mod MarkLemmas
mod VerdictLemmas
mod WithinLemmas
pub mod VerdictLaws
