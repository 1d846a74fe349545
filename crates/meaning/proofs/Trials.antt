pub mod Joins
pub mod Listing
pub mod Rename
pub mod Step
