pub mod Chain
pub mod Flat
pub mod InTurn
pub mod Pairs
pub mod Passes
