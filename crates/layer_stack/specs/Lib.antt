pub mod Beginning
pub mod FrameFields
pub mod Inputs
pub mod Layer
pub mod Recovery
pub mod Run
pub mod Streaks
