-- The number of steps decides nothing but whether a run ends for want of steps.
pub mod MorePlans
pub mod MoreRuns
