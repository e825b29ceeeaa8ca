pub mod Lists
pub mod Signed
pub mod Rule
pub mod BigEndian
pub mod Output
pub mod Vlq
pub mod VlqTrip
pub mod Decimal
