use Rattle.std.proofs.Common.{◌-◌, refl, sym, ◌∙◌, ap, subst, arith}
use Rattle.asl_table.specs.private.Listed.{masks_of, AreLive}
use Rattle.asl_table.proofs.Turning.{no_length, splits_code, some_top_code, place_less, live_there, at_none, at_zero, at_budget, at_low_budget, at_low_free, at_high_budget, at_high_total, at_high_free, found_length, padded_is}
use Rattle.asl_table.proofs.search.+search.Goals as goal

pub returns-then-is_empty : goal.returns-then-is_empty
returns-then-is_empty t c = at_none _ _ _ _ (no_length _ _ c.is_empty.ensures c.if-is_empty.true) c.filled.ensures

pub returns-then-has_zero : goal.returns-then-has_zero
returns-then-has_zero t c = at_zero _ _ _ c.requires.live (sym c.has_zero.ensures ∙ c.if-has_zero.true)

pub overflow_sub-place : goal.overflow_sub-place
overflow_sub-place t c =
    let s = splits_code _ _ _ _ _ c.requires.live c.is_empty.ensures c.if-is_empty.false c.has_zero.ensures c.if-has_zero.false c.highest-place.ensures in
    some_top_code _ _ _ _ s c.highest-place.ensures

pub allowing-requires : goal.allowing-requires
allowing-requires t c =
    live_there _ _ _ (splits_code _ _ _ _ _ c.requires.live c.is_empty.ensures c.if-is_empty.false c.has_zero.ensures c.if-has_zero.false c.highest-place.ensures)

pub search-requires : goal.search-requires
search-requires t c =
    let s = splits_code _ _ _ _ _ c.requires.live c.is_empty.ensures c.if-is_empty.false c.has_zero.ensures c.if-has_zero.false c.highest-place.ensures in
    let less = place_less _ _ _ s in
    (omega (arith, less, c.decreases), (omega (arith, less, c.requires.within), subst (AreLive _) (sym c.as_slice.ensures.value) c.in_ok-low.ensures.live))

pub returns-in-Budget : goal.returns-in-Budget
returns-in-Budget t c =
    let s = splits_code _ _ _ _ _ c.requires.live c.is_empty.ensures c.if-is_empty.false c.has_zero.ensures c.if-has_zero.false c.highest-place.ensures in
    at_low_budget _ _ _ (c.args.left - 1) _ _ s (omega (arith, c.if-left-eq0.false)) (ap masks_of c.as_slice.ensures.value ∙ c.in_ok-low.ensures.masks) (sym c.in-Budget.is ∙ c.in_ok-search.ensures)

pub padded-requires-clause-above : goal.padded-requires-clause-above
padded-requires-clause-above t c =
    let s = splits_code _ _ _ _ _ c.requires.live c.is_empty.ensures c.if-is_empty.false c.has_zero.ensures c.if-has_zero.false c.highest-place.ensures in
    let less = place_less _ _ _ s in
    omega (arith, less, found_length _ _ _ _ (sym c.in-Free.is ∙ c.in_ok-search.ensures))

pub returns-in-Free : goal.returns-in-Free
returns-in-Free t c =
    let s = splits_code _ _ _ _ _ c.requires.live c.is_empty.ensures c.if-is_empty.false c.has_zero.ensures c.if-has_zero.false c.highest-place.ensures in
    let h = sym c.in-Free.is ∙ c.in_ok-search.ensures in
    at_low_free _ _ _ (c.args.left - 1) _ _ _ _ s (omega (arith, c.if-left-eq0.false)) (ap masks_of c.as_slice.ensures.value ∙ c.in_ok-low.ensures.masks) h (padded_is _ _ _ _ _ (found_length _ _ _ _ h) c.padded.ensures)

pub allowing-requires-in-Total : goal.allowing-requires-in-Total
allowing-requires-in-Total t c =
    live_there _ _ _ (splits_code _ _ _ _ _ c.requires.live c.is_empty.ensures c.if-is_empty.false c.has_zero.ensures c.if-has_zero.false c.highest-place.ensures)

pub search-requires-in-Total : goal.search-requires-in-Total
search-requires-in-Total t c =
    let s = splits_code _ _ _ _ _ c.requires.live c.is_empty.ensures c.if-is_empty.false c.has_zero.ensures c.if-has_zero.false c.highest-place.ensures in
    let less = place_less _ _ _ s in
    (omega (arith, less, c.decreases), (omega (arith, less, c.requires.within), subst (AreLive _) (sym c.as_slice-in-Total.ensures.value) c.in_ok-high-in-Total.ensures.live))

pub returns-in-Budget-2 : goal.returns-in-Budget-2
returns-in-Budget-2 t c =
    let s = splits_code _ _ _ _ _ c.requires.live c.is_empty.ensures c.if-is_empty.false c.has_zero.ensures c.if-has_zero.false c.highest-place.ensures in
    at_high_budget _ _ _ (c.args.left - 1) _ _ _ _ s (omega (arith, c.if-left-eq0.false)) (ap masks_of c.as_slice.ensures.value ∙ c.in_ok-low.ensures.masks) (sym c.in-Total.is ∙ c.in_ok-search.ensures)
    (ap masks_of c.as_slice-in-Total.ensures.value ∙ c.in_ok-high-in-Total.ensures.masks) (sym c.in-Budget-2.is ∙ c.in_ok-search-in-Total.ensures)

pub returns-in-Total-2 : goal.returns-in-Total-2
returns-in-Total-2 t c =
    let s = splits_code _ _ _ _ _ c.requires.live c.is_empty.ensures c.if-is_empty.false c.has_zero.ensures c.if-has_zero.false c.highest-place.ensures in
    at_high_total _ _ _ (c.args.left - 1) _ _ _ _ _ s (omega (arith, c.if-left-eq0.false)) (ap masks_of c.as_slice.ensures.value ∙ c.in_ok-low.ensures.masks) (sym c.in-Total.is ∙ c.in_ok-search.ensures)
    (ap masks_of c.as_slice-in-Total.ensures.value ∙ c.in_ok-high-in-Total.ensures.masks) (sym c.in-Total-2.is ∙ c.in_ok-search-in-Total.ensures)

pub padded-requires-in-Free-2-clause-above : goal.padded-requires-in-Free-2-clause-above
padded-requires-in-Free-2-clause-above t c =
    let s = splits_code _ _ _ _ _ c.requires.live c.is_empty.ensures c.if-is_empty.false c.has_zero.ensures c.if-has_zero.false c.highest-place.ensures in
    let less = place_less _ _ _ s in
    omega (arith, less, found_length _ _ _ _ (sym c.in-Free-2.is ∙ c.in_ok-search-in-Total.ensures))

pub returns : goal.returns
returns t c =
    let s = splits_code _ _ _ _ _ c.requires.live c.is_empty.ensures c.if-is_empty.false c.has_zero.ensures c.if-has_zero.false c.highest-place.ensures in
    let h = sym c.in-Free-2.is ∙ c.in_ok-search-in-Total.ensures in
    at_high_free _ _ _ (c.args.left - 1) _ _ _ _ _ _ s (omega (arith, c.if-left-eq0.false)) (ap masks_of c.as_slice.ensures.value ∙ c.in_ok-low.ensures.masks) (sym c.in-Total.is ∙ c.in_ok-search.ensures)
    (ap masks_of c.as_slice-in-Total.ensures.value ∙ c.in_ok-high-in-Total.ensures.masks) h (padded_is _ _ _ _ _ (found_length _ _ _ _ h) c.padded-in-Free-2.ensures)

pub returns-then-left-eq0 : goal.returns-then-left-eq0
returns-then-left-eq0 t c =
    let s = splits_code _ _ _ _ _ c.requires.live c.is_empty.ensures c.if-is_empty.false c.has_zero.ensures c.if-has_zero.false refl in
    at_budget _ _ _ _ s c.if-left-eq0.true
