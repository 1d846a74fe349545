pub mod Models
pub mod ModelLaws
pub mod ArrayLaws
pub mod NameLaws
pub mod RenameLaws
pub mod Folds
