pub mod Models
pub mod MachineLaws
pub mod BlockLaws
