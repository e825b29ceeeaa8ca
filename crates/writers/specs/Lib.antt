pub mod Survey
pub mod Pack
pub mod Fields
pub mod Tables
pub mod Encode
