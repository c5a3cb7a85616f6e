use Rattle.std.proofs.Common.{◌≡◌, Result, Err, sym, ap, ◌∙◌, subst}
use Rattle.std.specs.Prelude.{IfOk}
use Rattle.asl_syn.specs.declared.code.Fault.{Fault}
use Rattle.asl_syn.specs.declared.code.Refused.{Refused}
use Rattle.asl_syn.specs.declared.code.Refused.TheVariants.{At}
use Rattle.asl_rules.specs.expressions.Exprs.{found, width}
use Rattle.asl_rules.specs.statements.Locals.{counted_as}
use Rattle.asl_rules.specs.declarations.Scopes.{Counted, next_atom}
use Rattle.asl_types.specs.private.Answers.{Met}
use Rattle.asl_subprograms.specs.private.ContextView.{scope_of}
use Rattle.asl_widths.specs.WidthViews.{width_of}
use Rattle.asl_blocks.specs.private.Views.{body_of}
use Rattle.asl_simple.proofs.counted.counted_as.Goals as goal

met_at : {A B : Type 0} (v : A → B) (e : Refused) (f : Fault) (r : Result B Fault) → e ≡ At f → Met v (Err e) r → r ≡ Err f
met_at v e f r is h = subst (λ (z : Refused). Met v (Err z) r) is h

pub returns-in-Err-At : goal.returns-in-Err-At
returns-in-Err-At c = λ t s.
    let e = c.args.e.now in
    let G = (body_of c.args.names.now c.args.body.now).scope in
    subst (λ (x : Counted). IfOk c.next_itself.result (λ counted. counted ≡ x))
    (sym (ap (λ r. counted_as r ((found t e).has_atom G) (next_atom c.args.names.now)) (
    ap (found t e).width (sym c.context.ensures) ∙ met_at width_of c.in-Err-At.field-0 c.in-Err-At.field-0-0 (width t e (scope_of c.context.result)) c.in-Err-At.field-0-is (c.in-Err-At.ensures t))))
    c.next_itself.ensures
