pub mod Models
pub mod ModelLaws
