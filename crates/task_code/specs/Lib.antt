pub mod Machine
pub mod Compiler
pub mod Correct
