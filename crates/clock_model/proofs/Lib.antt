mod DriftLemmas
mod MomentsLemmas
pub mod HealthLaws
mod WindowLemmas
mod OrderLemmas
