pub mod Lists
pub mod Laws
pub mod KindLaws
pub mod RowLaws
