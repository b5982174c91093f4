mod OrderLemmas
pub mod TurnLaws
pub mod DueLaws
pub mod PickLaws
mod AgendaLemmas
