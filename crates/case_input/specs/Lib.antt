pub mod Cases
pub mod Models
