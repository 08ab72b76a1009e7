pub mod Tries
pub mod LaneSteps
pub mod Runs
pub mod PoolRun
pub mod Parts
pub mod Crew
