pub mod Models
pub mod ModelLaws
pub mod IdLaws
pub mod LoopLaws
pub mod AcquireLaws
pub mod CallLaws
