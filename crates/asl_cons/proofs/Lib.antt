-- The operators: their helpers equal the definitions by ExactResults (constant ends), EndsAsWidths (ends with atoms) and
-- PartCounts (the loops over parts). `below`: Covering and Rounding. `inclusion_law`: Membership.below_in. `arithmetic_law`: Results and
-- Products. The invariant of a constraint: KeptEnds. Each private function names
-- its lemmas in proofs/MODULE/FUNCTION.
pub mod ExactResults
pub mod EndsAsWidths
pub mod PartCounts
pub mod Covering
pub mod Rounding
pub mod Membership
pub mod Results
pub mod Products
pub mod KeptEnds
