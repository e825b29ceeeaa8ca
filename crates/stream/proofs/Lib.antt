pub mod Laws
pub mod LinesExample
