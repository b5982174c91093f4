mod GeneratorExamples
pub mod AcceptedLemmas
pub mod Each
pub mod FrameLemmas
pub mod GuardLemmas
pub mod HealthLemmas
pub mod LawLemmas
pub mod LengthLemmas
pub mod MadeLemmas
pub mod NameLemmas
pub mod NumberLemmas
pub mod PeriodLemmas
pub mod PlainLemmas
pub mod ReadLemmas
pub mod RecordLemmas
pub mod RowLemmas
pub mod TextLemmas
