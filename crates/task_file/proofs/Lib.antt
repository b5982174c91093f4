mod DocumentLemmas
mod LimitLemmas
mod NameEntryLemmas
mod NameLemmas
mod TextLemmas
mod ClashLemmas
mod VariableLemmas
mod MedianLemmas
mod Utf8Lemmas
mod PlanNames
mod PlanTexts
mod PlanSlots
mod PlanClashes
pub mod PlanLaws
