use Rattle.std.proofs.Common.{sym, subst, rules}
use Rattle.asl_poly.specs.Poly.{IsSubstituted}
use Rattle.asl_poly.proofs.Made.{raised_light, raised_degree, raised_fits, made_map, made_gives, substitute_is}
use Rattle.asl_poly.proofs.poly.Poly.substitute.Goals as goal

pub substitute_fits-requires-clause-light : goal.substitute_fits-requires-clause-light
substitute_fits-requires-clause-light c =
    rw c.deref.ensures.value
    (raised_light c.args.by.now c.args.self.now c.all_fine.ensures c.denominator.ensures.within_limits c.in-Some.n c.in-Some.ensures.0
    c.in_ok-raised.raised.items c.in_ok-raised.ensures c.in-Some.ensures.2)

pub substitute_fits-requires-clause-low : goal.substitute_fits-requires-clause-low
substitute_fits-requires-clause-low c =
    rw c.deref.ensures.value
    (raised_degree c.args.by.now c.args.self.now c.all_fine.ensures c.denominator.ensures.within_limits c.in-Some.n c.in-Some.ensures.0
    c.in_ok-raised.raised.items c.in_ok-raised.ensures)

pub lowest-requires-clause-map : goal.lowest-requires-clause-map
lowest-requires-clause-map c =
    made_map c.args.by.now c.args.self.now c.all_fine.ensures c.denominator.ensures.within_limits c.in-Some.n c.in-Some.ensures.0
    c.in_ok-raised.raised.items c.in_ok-raised.ensures c.in_ok-made.made.items (rw c.deref-2.ensures.value at c.in_ok-made.ensures.maps)
    (rw c.deref.ensures.value at (c.in_ok-substitute_fits.ensures.0 (search rules)))
    (rw c.deref-2.ensures.value at c.in_ok-made.ensures.terms)

pub returns-clause-gives : goal.returns-clause-gives
returns-clause-gives c = (
  raised_fits c.args.by.now c.args.self.now c.all_fine.ensures c.denominator.ensures.within_limits c.in-Some.n c.in-Some.ensures.0
      c.in_ok-raised.raised.items c.in_ok-raised.ensures c.in-Some-finer.d c.in-Some-finer.ensures.1 c.in-Some-finer.ensures.0
      (rw c.deref.ensures.value at (c.in_ok-substitute_fits.ensures.0 (search rules))),
  made_gives c.args.by.now c.args.self.now
      c.all_fine.ensures c.denominator.ensures.within_limits c.in-Some.n c.in-Some.ensures.0 c.in_ok-raised.raised.items
      c.in_ok-raised.ensures c.in_ok-made.made.items c.in-Some-finer.d c.in_ok-answer.answer
      (rw c.deref-2.ensures.value at c.in_ok-made.ensures.terms) c.in-Some-finer.ensures.1 c.in_ok-answer.ensures,
)

pub returns-clause-value : goal.returns-clause-value
returns-clause-value c =
    subst (IsSubstituted c.args.by.now c.args.self.now)
    (sym (made_gives c.args.by.now c.args.self.now c.all_fine.ensures c.denominator.ensures.within_limits c.in-Some.n c.in-Some.ensures.0
    c.in_ok-raised.raised.items c.in_ok-raised.ensures c.in_ok-made.made.items c.in-Some-finer.d c.in_ok-answer.answer
    (rw c.deref-2.ensures.value at c.in_ok-made.ensures.terms) c.in-Some-finer.ensures.1 c.in_ok-answer.ensures))
    (substitute_is c.args.by.now c.args.self.now c.all_fine.ensures c.denominator.ensures.within_limits)
