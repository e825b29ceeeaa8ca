pub mod Laws
pub mod Back
pub mod MapLaws
