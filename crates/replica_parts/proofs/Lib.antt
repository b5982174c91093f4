mod RoomLemmas
mod SettingLemmas
mod PatternLemmas
mod LetterLemmas
pub mod BallotLaws
mod BallotLemmas
mod ComputingLemmas
mod OwnLemmas
mod HoldingLemmas
mod QuietLemmas
mod CommandLemmas
