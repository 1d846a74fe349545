pub mod Models
pub mod NumberLaws
