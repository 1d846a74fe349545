pub mod Models
pub mod LocalLaws
pub mod FirstLaws
pub mod CanonicalLaws
pub mod JoinLaws
