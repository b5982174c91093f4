pub mod Lines
pub mod PlanLines
pub mod Refusals
pub mod inner
