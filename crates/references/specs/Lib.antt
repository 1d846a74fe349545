pub mod Models
pub mod ModelLaws
pub mod RowLaws
