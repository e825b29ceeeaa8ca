pub mod Sizes
pub mod Fields
pub mod Pack
pub mod PackTrip
pub mod FieldsTrip
pub mod Tables
pub mod Encode
pub mod EncodeTrip
