use Rattle.std.proofs.Common.{◌≡◌, length, length-append, sym, ap, subst, arith}
use Rattle.asl_cons.specs.Constraint.{AllEnds}
use Rattle.asl_cons.proofs.KeptEnds.{all_ends_append}
use Rattle.asl_cons.proofs.cons.Cons.union.Goals as goal

pub invariant_of-result-2 : goal.invariant_of-result-2
invariant_of-result-2 c =
    let s : c.deref.result.now ≡ c.self.inside.parts.items = cc in
    let o : c.deref-2.result.now ≡ c.other.inside.parts.items = cc in
    let n : AllEnds c.new-parts.result.items = subst AllEnds (sym c.new-parts.ensures.items) tt in
    let i : AllEnds c.add_copies.new.made.items = subst AllEnds (sym c.in_ok-add_copies.ensures) (all_ends_append c.new-parts.result.items c.deref.result.now n (subst AllEnds (sym s) c.self.invariant.ends)) in
    record {
      few = omega (arith, ap length c.in_ok-add_copies-2.ensures, length-append c.add_copies.new.made.items c.deref-2.result.now, ap length c.in_ok-add_copies.ensures, length-append c.new-parts.result.items c.deref.result.now, ap length c.new-parts.ensures.items, ap length s, ap length o, c.len.ensures, c.len-else-is_empty-2.ensures, c.if-len-gt-MOST_PARTS.false);
      ends = subst AllEnds (sym c.in_ok-add_copies-2.ensures) (all_ends_append c.add_copies.new.made.items c.deref-2.result.now i (subst AllEnds (sym o) c.other.invariant.ends));
    }
