use Rattle.std.proofs.Common.{◌≡◌, ◌+◌, false, Err, drop, sym, ap, ◌∙◌, subst, arith}
use Rattle.asl_syn.specs.declared.code.StaticCode.TheVariants.{T03}
use Rattle.asl_syn.specs.declared.tree.Ident.{Ident}
use Rattle.asl_rules.specs.Faults.{fault_of}
use Rattle.asl_rules.specs.declarations.Uses.{cycles_rule, reaches_itself}
use Rattle.asl_names.specs.private.Answers.{Met}
use Rattle.asl_names.specs.private.Ways.{HasEdges, HasWay}
use Rattle.asl_names.proofs.Rest.{at_next}
use Rattle.asl_rules.proofs.verdict.Reaching.{cycles_pass}
use Rattle.asl_names.proofs.CycleLemmas.{cycles_stop, at_here, edges_within, way_back, not_back}
use Rattle.asl_names.proofs.cycles.check_cycles.Goals as goal

pub is_back-requires : goal.is_back-requires
is_back-requires c = record {
  edges = subst HasEdges (sym c.requires.graph) (edges_within c.args.decls.now c.requires.names);
  falls = c.in_ok-levels.ensures;
}

pub returns-then-branch : goal.returns-then-branch
returns-then-branch c =
    let ds = c.args.decls.now in
    let i = c.loop-place.place in
    let d = c.index-decls-place.result in
    let back = way_back ds i d c.requires.names (at_here ds i d (omega arith) c.index-decls-place.is) (subst (λ g. HasWay g i i) c.requires.graph (c.in_ok-is_back.ensures.way c.if-branch.true)) in
    subst (λ r. Met {A = Unit {0}} {B = Unit {0}} (λ x. tt) r (cycles_rule ds ds)) (sym c.fault.ensures)
    (sym c.loop-place.invariant ∙ ap (cycles_rule ds) (at_next ds i d (omega arith) c.index-decls-place.is) ∙ cycles_stop ds d (drop (i + 1) ds) back
    ∙ ap (λ (x : Ident). Err (fault_of T03 x.span)) (sym c.name_of.ensures))

pub loop-place-preserved : goal.loop-place-preserved
loop-place-preserved c =
    let ds = c.args.decls.now in
    let i = c.loop-place.place in
    let d = c.index-decls-place.result in
    let at = at_here ds i d (omega arith) c.index-decls-place.is in
    let h : reaches_itself ds d ≡ false =
    not_back ds i d c.in_ok-is_back.field-0 c.requires.names at c.if-branch.false
    (λ w. c.in_ok-is_back.ensures.none (subst (λ g. HasWay g i i) (sym c.requires.graph) w)) in
    sym (cycles_pass ds d (drop (i + 1) ds) h)
    ∙ ap (cycles_rule ds) (sym (at_next ds i d (omega arith) c.index-decls-place.is))
    ∙ c.loop-place.invariant
