-- `search`: Free (the least word that no mask matches), Splitting (how often the search splits, and where), Searching (the
-- whole from its halves) and Turning (each return of the code). The lists of the search: Halving and Listing. `overlap`: Overlaps.
-- `lows` and `may_meet`: LowWords. `next_overlap`: Pairing.
-- `tables`: ReadMasks (the masks of patterns and alternatives, and the table of a `case`), Appending (the tables of one `case` behind
-- those of another) and Widths.
pub mod Free
pub mod Splitting
pub mod Searching
pub mod Turning
pub mod Halving
pub mod Listing
pub mod Overlaps
pub mod LowWords
pub mod Pairing
pub mod ReadMasks
pub mod Appending
pub mod Widths
