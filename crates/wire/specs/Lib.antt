pub mod Numbers
pub mod Put
pub mod Values
pub mod State
pub mod Places
pub mod Map
pub mod Boundary
