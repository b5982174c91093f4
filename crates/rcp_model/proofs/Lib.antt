pub mod TimingLaws
pub mod RowLaws
mod VoteLaws
pub mod HistoryLaws
pub mod FrameLimitLaws
pub mod FrameOfLaws
pub mod RoundingLaws
pub mod NameLaws
pub mod ExprLaws
pub mod OrderLaws
pub mod LevelLaws
pub mod CoreLaws
pub mod CycleLaws
pub mod WalkLaws
pub mod UniqueLaws
pub mod ShownLaws
pub mod AlikeLaws
mod ExamplePlans
mod ComputedRuns
mod ExampleEngines
mod ExampleRuns
mod MotorExamples
mod CounterExamples
mod HeardExamples
mod IdealExamples
mod ClockExamples
mod RowExamples
mod GraphExamples
mod WalkExamples
mod CycleExamples
mod FeedingExamples
