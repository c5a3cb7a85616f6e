use Rattle.std.proofs.Common.{false, length, Ok, sym, ap, ◌∙◌}
use Rattle.asl_rules.specs.declared.effect.Effect.TheVariants.{Pure}
use Rattle.asl_rules.specs.statements.Acting.{done}
use Rattle.asl_rules.specs.expressions.Exprs.{found_type, written}
use Rattle.asl_rules.specs.Faults.{◌>>=◌}
use Rattle.asl_rules.specs.statements.Locals.{vars_declared}
use Rattle.asl_rules.specs.runs.Trees as tree
use Rattle.asl_rules.specs.expressions.Typing.{trees_from}
use Rattle.asl_shape.specs.View.{type_of}
use Rattle.asl_tree.specs.View.{all_trees}
use Rattle.asl_written.specs.WrittenViews.{written_of}
use Rattle.asl_blocks.specs.private.Views.{body_of}
use Rattle.asl_simple.proofs.locals.check_vars.Goals as goal

pub returns : goal.returns
returns c = λ t s.
    let span = c.args.span in
    let is = c.args.idents.now in
    let at = (found_type t c.args.ty.now).span in
    let G = (body_of c.args.names.now c.args.body.now).scope in
    let W = written_of c.in_ok-written.written in
    let names = c.declare_vars.new.names in
    ap (λ r. r >>= λ W. vars_declared span is at W G) (ap (λ H. written t c.args.ty.now false H) (sym c.context.ensures) ∙ c.in_ok-written.ensures t s)
    ∙ ap (λ r. r >>= λ names. Ok (done names Pure (tree.DeclareFirst span (length is) at W.shape (trees_from W.sizes)))) c.in_ok-declare_vars.ensures
    ∙ ap Ok (
    (λ i. done names Pure (tree.DeclareFirst span (length is) (sym (c.type_place.ensures t) i) (type_of (sym c.into_parts-ty_written.ensures i).1) (all_trees (sym c.into_parts-ty_written.ensures i).2)))
    ∙ sym (c.simply.ensures names))
