pub mod Cells
pub mod Ring
pub mod Headers
pub mod Calls
pub mod Kept
