mod OperandLemmas
mod RunLemmas
mod LeafLemmas
pub mod SizeLaws
mod StackLemmas
mod LoopLemmas
pub mod RoomLaws
