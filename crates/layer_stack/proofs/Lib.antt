pub mod QuietLaws
mod FrameLemmas
mod BeginningLemmas
mod LengthLemmas
mod ReplicaLemmas
mod RecoveryLemmas
mod AtFrameLemmas
mod RunLemmas
