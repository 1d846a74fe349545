pub mod Models
pub mod LoopLaws
pub mod PropagateLaws
pub mod TurnLaws
pub mod WholeLaws
