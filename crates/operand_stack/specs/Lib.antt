pub mod Models
pub mod StackLaws
