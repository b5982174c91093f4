-- How the code reads. No promise to a user cites these.
pub mod Levels
pub mod Rows
pub mod Scopes
