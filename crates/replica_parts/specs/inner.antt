-- Words of private functions, which no promise cites. This project's own.
pub mod Slots
pub mod Agreement
