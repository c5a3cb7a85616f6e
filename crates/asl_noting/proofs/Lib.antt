-- `Noting` cites Opening.
pub mod Opening
