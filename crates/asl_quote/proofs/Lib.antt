-- The clauses of `literal_law`, each with its lemma in Contents: `whole` closed_content, `content` content_closed, `width`
-- content_width, `fixed` fixed_unless_mask, `malformed` bits_malformed. The invariant of `quote_reach` proves its three
-- clauses; Quoting has what crates above need of them. The other functions are proved without a lemma.
pub mod Quoting
pub mod Contents
