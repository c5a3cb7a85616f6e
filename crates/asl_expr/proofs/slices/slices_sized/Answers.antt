use Rattle.std.proofs.Common.{◌≡◌, Ok, Err, rules, sym, ap, subst, ◌∙◌}
use Rattle.asl_rules.specs.expressions.Slicing.{shapes_of}
use Rattle.asl_rules.specs.statements.Targets.{found_slices}
use Rattle.asl_rules.specs.runs.Trees as trees
use Rattle.asl_rules.specs.expressions.Typing.{trees_of}
use Rattle.asl_tree.specs.View.{tree_of, typed_of, all_operands, all_trees, note_view}
use Rattle.asl_types.specs.private.Answers.{Met}
use Rattle.asl_expr.specs.private.SliceViews.{slices_note}
use Rattle.asl_expr.proofs.CallArms.{slices_finished, slices_refused}
use Rattle.asl_tree.proofs.Operands.{trees_seen}
use Rattle.asl_expr.proofs.slices.slices_sized.Goals as goal

pub returns : goal.returns
returns c t =
    slices_finished c.args.class c.args.span (typed_of c.args.sliced) (all_operands c.args.operands) c.args.width (shapes_of (found_slices t c.args.slices.now)) (note_view c.in_ok-note.note) c.in_ok-slices.field-0
    (subst (λ x. slices_note c.args.class c.args.span (typed_of x) (all_operands c.args.operands) c.args.width ≡ Ok (note_view c.in_ok-note.note)) c.get.ensures (subst (λ us. slices_note c.args.class c.args.span (typed_of c.get.result.now) (all_operands us) c.args.width ≡ Ok (note_view c.in_ok-note.note)) c.as_slice.ensures c.in_ok-note.ensures))
    (c.in_ok-slices.ensures ∙ ap (λ ss. trees.Slices (note_view c.in_ok-note.note) (tree_of c.args.sliced) ss (all_trees c.args.operands)) (c.in_ok-shapes.ensures t) ∙ ap (λ us. trees.Slices (note_view c.in_ok-note.note) (tree_of c.args.sliced) (shapes_of (found_slices t c.args.slices.now)) us) (sym (trees_seen c.args.operands)))

pub returns-in_err-note : goal.returns-in_err-note
returns-in_err-note c t =
    let is : c.from_residual-in_err-note.result ≡ Err c.in_err-note.field-0.0 = search rules in
    slices_refused c.args.class c.args.span (typed_of c.args.sliced) (all_operands c.args.operands) c.args.width _ c.in_err-note.field-0.0 c.from_residual-in_err-note.result is
    (subst (λ x. Met note_view (Err c.in_err-note.field-0.0) (slices_note c.args.class c.args.span (typed_of x) (all_operands c.args.operands) c.args.width)) c.get.ensures (subst (λ us. Met note_view (Err c.in_err-note.field-0.0) (slices_note c.args.class c.args.span (typed_of c.get.result.now) (all_operands us) c.args.width)) c.as_slice.ensures c.in_err-note.ensures))
