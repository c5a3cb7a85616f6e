-- Written types whose parts are in lists.
use Rattle.std.proofs.Common.{◌≡◌, Bool, List, Result, Ok, Err, refl, sym, ap, subst, ◌∙◌}
use Rattle.asl_syn.specs.declared.code.Fault.{Fault}
use Rattle.asl_syn.specs.declared.code.Refused.{Refused}
use Rattle.asl_syn.specs.declared.token.Span.{Span}
use Rattle.asl_syn.specs.declared.tree.ConstraintPart.{ConstraintPart}
use Rattle.asl_syn.specs.declared.tree.TypeExpr.{TypeExpr}
use Rattle.asl_syn.specs.declared.tree.TypeExpr.TheVariants as tv
use Rattle.asl_syn.specs.declared.tree.Bitfield.TheOpen as ex
use Rattle.asl_syn.specs.declared.tree.Bitfield.TheFolds.{fold-roll-TypeExpr}
use Rattle.asl_rules.specs.expressions.Exprs.{FoundField, written, bitfield_rule, part_rule, expr_rule, given_rule, pattern_rule, slice_rule, type_rule}
use Rattle.asl_rules.specs.Faults.{◌>>=◌}
use Rattle.asl_rules.specs.expressions.Patterns.{FoundPattern}
use Rattle.asl_rules.specs.declarations.Scopes.{Scope}
use Rattle.asl_rules.specs.expressions.Slicing.{FoundSlice}
use Rattle.asl_rules.specs.Tests.{Tests}
use Rattle.asl_rules.specs.expressions.Typing.{Found}
use Rattle.asl_rules.specs.types.Writing.{Written, FoundPart, FoundBitfield, FoundType, integer_rule, types_in_order, tuple_written}
use Rattle.asl_types.specs.private.Answers.{Met}
use Rattle.asl_written.specs.private.Constraints.{found_parts}
use Rattle.asl_written.specs.declared.written.Written as code
use Rattle.asl_written.specs.private.WrittenTypes.{found_types, no_types, with_types, tuple_from}
use Rattle.asl_written.specs.WrittenViews.{written_of}
use Rattle.asl_written.proofs.TypeLemmas.{tuple_gathered}

pub integer_type : (t : Tests) (ty : TypeExpr) (span : Span) (ps qs : List ConstraintPart) (outside : Bool) (G : Scope) (r : Result code.Written Refused) →
    ty ≡ tv.IntegerType span ps → qs ≡ ps → Met written_of r (integer_rule span (found_parts t qs) G) → Met written_of r (written t ty outside G)
integer_type t ty span ps qs outside G r is same met = subst (λ (z : Result Written Fault). Met written_of r z) (sym gives) met
  where
    gives : written t ty outside G ≡ integer_rule span (found_parts t qs) G
    gives =
        ap (λ u. written t u outside G) (is ∙ sym (tv.rolls-IntegerType span ps))
        ∙ ap (λ (f : FoundType). f.ty outside G) (fold-roll-TypeExpr FoundBitfield FoundPart Found FoundField FoundPattern FoundSlice FoundType bitfield_rule part_rule (expr_rule t) given_rule (pattern_rule t) slice_rule (type_rule t) (ex.IntegerType span ps))
        ∙ ap (λ xs. integer_rule span (found_parts t xs) G) (sym same)

pub tuple_by : (t : Tests) (ty : TypeExpr) (span : Span) (ps qs : List TypeExpr) (outside : Bool) (G : Scope) → ty ≡ tv.TupleType span ps → qs ≡ ps →
    written t ty outside G ≡ ((types_in_order outside (found_types t qs) G >>= λ Ws. Ok (with_types no_types Ws)) >>= λ g. tuple_from span g)
tuple_by t ty span ps qs outside G is same =
    ap (λ u. written t u outside G) (is ∙ sym (tv.rolls-TupleType span ps))
    ∙ ap (λ (f : FoundType). f.ty outside G) (fold-roll-TypeExpr FoundBitfield FoundPart Found FoundField FoundPattern FoundSlice FoundType bitfield_rule part_rule (expr_rule t) given_rule (pattern_rule t) slice_rule (type_rule t) (ex.TupleType span ps))
    ∙ ap (λ xs. types_in_order outside (found_types t xs) G >>= λ Ws. tuple_written span Ws) (sym same)
    ∙ by (types_in_order outside (found_types t qs) G)
  where
    by : (r : Result (List Written) Fault) → (r >>= λ Ws. tuple_written span Ws) ≡ ((r >>= λ Ws. Ok (with_types no_types Ws)) >>= λ g. tuple_from span g)
    by (Ok Ws) = sym (tuple_gathered span Ws)
    by (Err e) = refl
