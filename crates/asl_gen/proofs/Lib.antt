-- The functions that add one line cite Pieces, in proofs/push_*. `push_declarations` cites Lines.declarations_more, `push_statements`
-- Lines.statements_more, and `program` Pieces.four and Lengths.length-program.
pub mod Lengths
pub mod Lines
pub mod Pieces
