-- Expressions with several parts, whose rules take what is found at each of them.
use Rattle.std.proofs.Common.{◌≡◌, List, map, Result, sym, ap, subst, ◌∙◌}
use Rattle.asl_syn.specs.declared.token.Span.{Span}
use Rattle.asl_syn.specs.declared.code.Fault.{Fault}
use Rattle.asl_syn.specs.declared.code.Refused.{Refused}
use Rattle.asl_syn.specs.declared.tree.Expr.{Expr}
use Rattle.asl_syn.specs.declared.tree.Expr.TheVariants as ev
use Rattle.asl_syn.specs.declared.tree.FieldValue.{FieldValue}
use Rattle.asl_syn.specs.declared.tree.Slice.{Slice}
use Rattle.asl_syn.specs.declared.tree.Ident.{Ident}
use Rattle.asl_syn.specs.declared.tree.Bitfield.TheOpen as ex
use Rattle.asl_syn.specs.declared.tree.Bitfield.TheFolds.{fold-roll-Expr}
use Rattle.asl_rules.specs.expressions.Calls.{function_rule}
use Rattle.asl_rules.specs.expressions.Exprs.{ExprOf, FoundField, found, typed, expr_rule, given_rule, slice_rule, type_rule, part_rule, bitfield_rule, pattern_rule, tuple_rule, construct_rule}
use Rattle.asl_rules.specs.expressions.Patterns.{FoundPattern}
use Rattle.asl_rules.specs.declarations.Scopes.{Scope}
use Rattle.asl_rules.specs.expressions.Slicing.{FoundSlice, slices_rule}
use Rattle.asl_rules.specs.statements.Targets.{found_slices}
use Rattle.asl_rules.specs.Tests.{Tests}
use Rattle.asl_rules.specs.expressions.Typing.{Found, Typed}
use Rattle.asl_rules.specs.types.Writing.{FoundPart, FoundBitfield, FoundType}
use Rattle.asl_types.specs.private.Answers.{Met}
use Rattle.asl_tree.specs.declared.tree.Tree.{Tree}
use Rattle.asl_tree.specs.View.{typed_of}
use Rattle.asl_typing.specs.private.Constructs.{found_fields}

tuple_rolled : (t : Tests) (e : Expr) (span : Span) (es fs : List Expr) (G : Scope) → e ≡ ev.Tuple span es → fs ≡ es → tuple_rule span (map (found t) fs) G ≡ typed t e G
tuple_rolled t e span es fs G is same =
    ap (λ gs. tuple_rule span (map (found t) gs) G) same
    ∙ sym (ap (λ u. typed t u G) (is ∙ sym (ev.rolls-Tuple span es))
    ∙ ap (λ (f : Found). f.typed G) (fold-roll-Expr FoundBitfield FoundPart Found FoundField FoundPattern FoundSlice FoundType bitfield_rule part_rule (expr_rule t) given_rule (pattern_rule t) slice_rule (type_rule t) (ex.Tuple span es)))

construct_rolled : (t : Tests) (e : Expr) (span : Span) (i : Ident) (gs hs : List FieldValue) (G : Scope) → e ≡ ev.Construct span i gs → hs ≡ gs → construct_rule t span i (found_fields t hs) G ≡ typed t e G
construct_rolled t e span i gs hs G is same =
    ap (λ ks. construct_rule t span i (found_fields t ks) G) same
    ∙ sym (ap (λ u. typed t u G) (is ∙ sym (ev.rolls-Construct span i gs))
    ∙ ap (λ (f : Found). f.typed G) (fold-roll-Expr FoundBitfield FoundPart Found FoundField FoundPattern FoundSlice FoundType bitfield_rule part_rule (expr_rule t) given_rule (pattern_rule t) slice_rule (type_rule t) (ex.Construct span i gs)))

call_rolled : (t : Tests) (e : Expr) (span : Span) (i : Ident) (ps qs es fs : List Expr) (G : Scope) → e ≡ ev.Call span i ps es → qs ≡ ps → fs ≡ es →
    function_rule t span i (map (found t) qs) (map (found t) fs) G ≡ typed t e G
call_rolled t e span i ps qs es fs G is one two =
    ap (λ gs. function_rule t span i (map (found t) gs) (map (found t) fs) G) one
    ∙ ap (λ gs. function_rule t span i (map (found t) ps) (map (found t) gs) G) two
    ∙ sym (ap (λ u. typed t u G) (is ∙ sym (ev.rolls-Call span i ps es))
    ∙ ap (λ (f : Found). f.typed G) (fold-roll-Expr FoundBitfield FoundPart Found FoundField FoundPattern FoundSlice FoundType bitfield_rule part_rule (expr_rule t) given_rule (pattern_rule t) slice_rule (type_rule t) (ex.Call span i ps es)))

slices_rolled : (t : Tests) (e : Expr) (span : Span) (a b : Expr) (ss us : List Slice) (G : Scope) → e ≡ ev.Slices span a ss → b ≡ a → us ≡ ss →
    slices_rule span (found t b) (found_slices t us) G ≡ typed t e G
slices_rolled t e span a b ss us G is one two =
    ap (λ c. slices_rule span (found t c) (found_slices t us) G) one
    ∙ ap (λ vs. slices_rule span (found t a) (found_slices t vs) G) two
    ∙ sym (ap (λ u. typed t u G) (is ∙ sym (ev.rolls-Slices span a ss))
    ∙ ap (λ (f : Found). f.typed G) (fold-roll-Expr FoundBitfield FoundPart Found FoundField FoundPattern FoundSlice FoundType bitfield_rule part_rule (expr_rule t) given_rule (pattern_rule t) slice_rule (type_rule t) (ex.Slices span a ss)))

pub tuple_met : (t : Tests) (e : Expr) (span : Span) (es fs : List Expr) (G : Scope) (r : Result Tree Refused) → e ≡ ev.Tuple span es → fs ≡ es →
    Met typed_of r (tuple_rule span (map (found t) fs) G) → Met typed_of r (typed t e G)
tuple_met t e span es fs G r is same h = subst (λ (z : Result Typed Fault). Met typed_of r z) (tuple_rolled t e span es fs G is same) h

pub construct_met : (t : Tests) (e : Expr) (span : Span) (i : Ident) (gs hs : List FieldValue) (G : Scope) (r : Result Tree Refused) → e ≡ ev.Construct span i gs → hs ≡ gs →
    Met typed_of r (construct_rule t span i (found_fields t hs) G) → Met typed_of r (typed t e G)
construct_met t e span i gs hs G r is same h = subst (λ (z : Result Typed Fault). Met typed_of r z) (construct_rolled t e span i gs hs G is same) h

pub call_met : (t : Tests) (e : Expr) (span : Span) (i : Ident) (ps qs es fs : List Expr) (G : Scope) (r : Result Tree Refused) → e ≡ ev.Call span i ps es → qs ≡ ps → fs ≡ es →
    Met typed_of r (function_rule t span i (map (found t) qs) (map (found t) fs) G) → Met typed_of r (typed t e G)
call_met t e span i ps qs es fs G r is one two h = subst (λ (z : Result Typed Fault). Met typed_of r z) (call_rolled t e span i ps qs es fs G is one two) h

pub slices_met : (t : Tests) (e : Expr) (span : Span) (a b : Expr) (ss us : List Slice) (G : Scope) (r : Result Tree Refused) → e ≡ ev.Slices span a ss → b ≡ a → us ≡ ss →
    Met typed_of r (slices_rule span (found t b) (found_slices t us) G) → Met typed_of r (typed t e G)
slices_met t e span a b ss us G r is one two h = subst (λ (z : Result Typed Fault). Met typed_of r z) (slices_rolled t e span a b ss us G is one two) h
