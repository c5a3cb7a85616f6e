use Rattle.std.proofs.Common.{◌≤◌, ◌<◌, length, sym, ◌∙◌, arith}
use Rattle.asl_table.proofs.Pairing.{lows_length, one_width, overlap_at, apart_at, told_none, none_there, skipped, passed_by, passed_all, found_next}
use Rattle.asl_table.proofs.pairs.next_overlap.Goals as goal
use Rattle.asl_table.proofs.pairs.next_overlap.Goals.{then-may_meet+in_default, else-may_meet}

pub bounds-lows-i : goal.bounds-lows-i
bounds-lows-i c = omega (arith, lows_length _ _ c.requires.lows, c.requires.there)

pub mask_of-requires-then-may_meet : goal.mask_of-requires-then-may_meet
mask_of-requires-then-may_meet c = omega (arith, lows_length _ _ c.requires.lows, c.loop-j-test.true)

pub overlap-requires : goal.overlap-requires
overlap-requires c = one_width _ _ _ _ _ _ c.mask_of.ensures c.mask_of-then-may_meet.ensures c.requires.wide c.requires.lows c.loop-j-test.true

pub returns-in-Some : goal.returns-in-Some
returns-in-Some c =
    let there : c.loop-j.j < length c.args.masks.now = omega (arith, lows_length _ _ c.requires.lows, c.loop-j-test.true) in
    found_next _ _ _ _ _ c.loop-j.auto.j there (apart_at _ _ _ _ _ _ c.requires.lows c.requires.there c.loop-j-test.true (c.may_meet.ensures.yes c.if-may_meet.true))
    (overlap_at _ _ _ _ _ c.mask_of.ensures c.mask_of-then-may_meet.ensures (sym c.in-Some.is ∙ c.overlap.ensures)) c.loop-j.invariant

pub loop-j-preserved : goal.loop-j-preserved
loop-j-preserved c =
    let there : c.loop-j.j < length c.args.masks.now = omega (arith, lows_length _ _ c.requires.lows, c.loop-j-test.true) in
    elim c.if-may_meet.branch [
      | then-may_meet+in_default w ↦
          passed_by _ _ _ _ _ (omega arith) there
          (none_there _ _ _ _ (apart_at _ _ _ _ _ _ c.requires.lows c.requires.there c.loop-j-test.true (c.may_meet.ensures.yes w.if-may_meet.true))
          (sym (overlap_at _ _ _ _ _ w.mask_of.ensures w.mask_of-then-may_meet.ensures (sym w.in_default.is ∙ w.overlap.ensures)))) c.loop-j.invariant
      | else-may_meet w ↦
          passed_by _ _ _ _ _ (omega arith) there
          (skipped _ _ _ _ (told_none _ _ _ _ _ _ _ c.requires.wide c.requires.lows c.requires.there c.loop-j-test.true c.may_meet.ensures.no w.if-may_meet.false)) c.loop-j.invariant
    ]

pub returns : goal.returns
returns c =
    let end : length c.args.masks.now ≤ c.loop-j.j = omega (arith, lows_length _ _ c.requires.lows, c.loop-j-test.false) in
    passed_all _ _ _ _ end c.loop-j.invariant
