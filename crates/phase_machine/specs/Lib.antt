pub mod Seats
pub mod Body
pub mod Phases
pub mod Phase
pub mod Laws
