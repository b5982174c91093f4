mod CountLemmas
mod TaskLemmas
pub mod PlanLemmas
