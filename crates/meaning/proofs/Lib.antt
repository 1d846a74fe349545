pub mod Laws
pub mod Marked
pub mod Theorems
pub mod Trials
