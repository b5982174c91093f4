-- Words of private functions, which no promise cites. This project's own.
pub mod Pieces
pub mod Digits
