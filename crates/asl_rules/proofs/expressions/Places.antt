-- The tree of an expression stands where the expression does, and has its type. The note of a tree is made at the end of a row alone, so this follows for each form from how its rule is written.
use Rattle.std.proofs.Common.{◌≡◌, ℕ, List, Option, Some, None, Result, Ok, refl, sym, ap, ◌∙◌}
use Rattle.asl_syn.specs.declared.token.Span.{Span}
use Rattle.asl_syn.specs.declared.code.Fault.{Fault}
use Rattle.asl_syn.specs.declared.tree.Expr.{Expr, out-Expr}
use Rattle.asl_syn.specs.declared.tree.Ident.{Ident}
use Rattle.asl_syn.specs.declared.tree.Bitfield.TheOpen as ex
use Rattle.asl_rules.specs.expressions.Calls.{function_of}
use Rattle.asl_rules.specs.expressions.Exprs.{ExprOf, span_of, typed_rule, found, typed, name_of_standing}
use Rattle.asl_rules.specs.values.Members.{Member, a_field, a_bitfield, member_tree}
use Rattle.asl_rules.specs.declarations.Routines.{Routine}
use Rattle.asl_rules.specs.declarations.Scopes.{Scope, Standing, Stored, Label, standing_of}
use Rattle.asl_rules.specs.Tests.{Tests}
use Rattle.asl_rules.specs.runs.Trees.{Tree, Note, tree_at, tree_type}
use Rattle.asl_rules.specs.expressions.Typing.{Found, Typed, Operand}
use Rattle.asl_rules.proofs.basics.Answering.{OfAnswer, steps_before, of_this}
use Rattle.asl_rules.proofs.basics.Opening.{opened, unrolled}

abbrev StandsAt : Span → Result Typed Fault → Type 0
StandsAt span r = OfAnswer (λ S. tree_at S.tree ≡ span) r

abbrev HasType : Result Typed Fault → Type 0
HasType r = OfAnswer (λ S. tree_type S.tree ≡ S.ty) r

member_at : (a : Tree) (m : Member) (n : Note) → tree_at (member_tree a m n) ≡ n.span
member_at a (a_field i T) n = refl
member_at a (a_bitfield f) n = refl

ruleset row_facts = (steps_before, refl, member_at)

name_at : (span : Span) (name : List ℕ) (o : Option Standing) (G : Scope) → StandsAt span (name_of_standing span name o G)
name_at span name (Some (Stored s)) G = search row_facts
name_at span name (Some (Label T x)) G = search row_facts
name_at span name o G = tt

function_at : (t : Tests) (span : Span) (i : Ident) (ps : List Found) (os : List Operand) (G : Scope) (o : Option Routine) → StandsAt span (function_of t span i ps os G o)
function_at t span i ps os G (Some r) = search row_facts depth 20
function_at t span i ps os G None = search row_facts depth 20

-- each row ends so
layer_at : (t : Tests) (layer : ExprOf) (G : Scope) → StandsAt (span_of layer) (typed_rule t layer G)
layer_at t (ex.Name span name) G = name_at span name (standing_of name G.names) G
layer_at t (ex.Call span i ps es) G = search (steps_before, function_at)
layer_at t layer G = search row_facts depth 20

-- the tree of an expression stands where the expression does
pub typed_at : (t : Tests) (e : Expr) (G : Scope) (S : Typed) → typed t e G ≡ Ok S → tree_at S.tree ≡ (found t e).span
typed_at t e G S h =
    let layer = opened t (out-Expr e) in
    of_this (λ (T : Typed). tree_at T.tree ≡ span_of layer) (typed_rule t layer G) S (sym (ap (λ (f : Found). f.typed G) (unrolled t e)) ∙ h) (layer_at t layer G) ∙ sym (ap (λ (f : Found). f.span) (unrolled t e))

-- ---- the type

member_typed : (a : Tree) (m : Member) (n : Note) → tree_type (member_tree a m n) ≡ n.ty
member_typed a (a_field i T) n = refl
member_typed a (a_bitfield f) n = refl

ruleset type_facts = (steps_before, refl, member_typed)

name_typed : (span : Span) (name : List ℕ) (o : Option Standing) (G : Scope) → HasType (name_of_standing span name o G)
name_typed span name (Some (Stored s)) G = search type_facts
name_typed span name (Some (Label T x)) G = search type_facts
name_typed span name o G = tt

function_typed : (t : Tests) (span : Span) (i : Ident) (ps : List Found) (os : List Operand) (G : Scope) (o : Option Routine) → HasType (function_of t span i ps os G o)
function_typed t span i ps os G (Some r) = search type_facts depth 20
function_typed t span i ps os G None = search type_facts depth 20

layer_typed : (t : Tests) (layer : ExprOf) (G : Scope) → HasType (typed_rule t layer G)
layer_typed t (ex.Name span name) G = name_typed span name (standing_of name G.names) G
layer_typed t (ex.Call span i ps es) G = search (steps_before, function_typed)
layer_typed t layer G = search type_facts depth 20

pub tree_typed : (t : Tests) (e : Expr) (G : Scope) (S : Typed) → typed t e G ≡ Ok S → tree_type S.tree ≡ S.ty
tree_typed t e G S h =
    let layer = opened t (out-Expr e) in
    of_this (λ (T : Typed). tree_type T.tree ≡ T.ty) (typed_rule t layer G) S (sym (ap (λ (f : Found). f.typed G) (unrolled t e)) ∙ h) (layer_typed t layer G)
