-- Calls, whose notes or effects were found.
use Rattle.std.proofs.Common.{◌≡◌, ℕ, length, map, arith, Bool, true, false, List, [], ◌∷◌, Result, Ok, Err, refl, sym, ap, subst, ◌∙◌}
use Rattle.asl_syn.specs.declared.token.Span.{Span}
use Rattle.asl_syn.specs.declared.code.Fault.{Fault}
use Rattle.asl_syn.specs.declared.code.Refused.{Refused}
use Rattle.asl_syn.specs.declared.code.StaticCode.TheVariants.{T02, T11, T12, T13}
use Rattle.asl_rules.specs.declared.effect.Effect.{Effect}
use Rattle.asl_rules.specs.declared.effect.Effect.TheVariants.{Pure}
use Rattle.asl_rules.specs.expressions.Calls.{Replacing, Called, called, call_tree, procedure_effect, procedure_of, procedure_rule}
use Rattle.asl_rules.specs.declarations.Routines.{routine_named}
use Rattle.asl_rules.specs.declarations.Scopes.{Scope, is_subprogram, standing_of}
use Rattle.asl_rules.specs.expressions.Slicing.{slices_behind}
use Rattle.asl_rules.specs.types.Shapes.{SliceShape}
use Rattle.asl_rules.specs.Tests.{Tests}
use Rattle.asl_poly.specs.Terms.{Polynomial}
use Rattle.asl_syn.specs.declared.tree.Ident.{Ident}
use Rattle.std.specs.Prelude.{◌==◌}
use Rattle.std.proofs.lemmas.Bool.Decides.{nat_tests}
use Rattle.std.proofs.lemmas.List.{length-map}
use Rattle.asl_syn.specs.declared.tree.Expr.{Expr}
use Rattle.asl_rules.specs.expressions.Exprs.{found}
use Rattle.asl_rules.specs.types.Effects.{greater, at_most, all_together, greatest}
use Rattle.asl_rules.specs.Faults.{◌>>=◌, ◌>>◌, need}
use Rattle.asl_rules.specs.runs.Trees as trees
use Rattle.asl_rules.specs.runs.Trees.{Note, note_of}
use Rattle.asl_rules.specs.types.Types.{Ty, bits_of}
use Rattle.asl_rules.specs.expressions.Typing.{Found, operands, Typed, Operand, effects_of, note, finish, finish_all, trees_of}
use Rattle.asl_types.specs.private.Answers.{Met}
use Rattle.asl_tree.specs.declared.tree.Tree.{Tree}
use Rattle.asl_tree.specs.View.{tree_of, typed_of, note_view}
use Rattle.asl_expr.specs.CallViews.{call_note, called_of, effect_of}
use Rattle.asl_expr.specs.private.SliceViews.{slices_note}
use Rattle.asl_expr.specs.declared.calls.Called as code
use Rattle.asl_expr.proofs.Stepping.{stops}

abbrev pub of_note : (Note → trees.Tree) → Note → Result Typed Fault
of_note make n = Ok (record { ty = n.ty; effect = n.effect; tree = make n })

-- the note, and then the tree
pub finished : (class : Effect) (span : Span) (ok : Bool) (k : Effect) (T : Ty) (make : Note → trees.Tree) →
    finish class span ok k T make ≡ ((need ok T13 span >> need (at_most k class) T12 span >> Ok (note span T k)) >>= of_note make)
finished class span ok k T make = by ok (at_most k class)
  where
    by : (a b : Bool) → (need a T13 span >> need b T12 span >> of_note make (note span T k)) ≡ ((need a T13 span >> need b T12 span >> Ok (note span T k)) >>= of_note make)
    by true true = refl
    by true false = refl
    by false b = refl

pub call_finished : (class : Effect) (span : Span) (os : List Operand) (own : Effect) (T : Ty) (f : trees.Callee) (w : Replacing) (n : Note) (x : Tree) →
    call_note class span os own T ≡ Ok n → tree_of x ≡ call_tree f w os n → finish_all class span os own T (call_tree f w os) ≡ Ok (typed_of x)
call_finished class span os own T f w n x is made =
    finished class span (all_together Pure (effects_of os)) (greater (greatest Pure (effects_of os)) own) T (call_tree f w os)
    ∙ ap (λ q. q >>= of_note (call_tree f w os)) is
    ∙ ap (λ (y : trees.Tree). let a : Result Typed Fault = Ok (record { ty = (note_of y).ty; effect = (note_of y).effect; tree = y }) in a) (sym made)

pub call_refused : (class : Effect) (span : Span) (os : List Operand) (own : Effect) (T : Ty) (make : Note → trees.Tree) (e : Refused) (r : Result Tree Refused) → r ≡ Err e →
    Met note_view (Err e) (call_note class span os own T) → Met typed_of r (finish_all class span os own T make)
call_refused class span os own T make e r is h =
    subst (λ q. Met typed_of r q) (sym (finished class span (all_together Pure (effects_of os)) (greater (greatest Pure (effects_of os)) own) T make)) (stops note_view typed_of (call_note class span os own T) (of_note make) e r is h)

-- ---- slices

pub slices_finished : (class : Effect) (span : Span) (S : Typed) (os : List Operand) (p : Polynomial) (ss : List SliceShape) (n : Note) (x : Tree) →
    slices_note class span S os p ≡ Ok n → tree_of x ≡ trees.Slices n S.tree ss (trees_of os) → slices_behind class span S ss os p ≡ Ok (typed_of x)
slices_finished class span S os p ss n x is made =
    finished class span (all_together Pure (S.effect ∷ effects_of os)) (greatest Pure (S.effect ∷ effects_of os)) (bits_of p []) (λ m. trees.Slices m S.tree ss (trees_of os))
    ∙ ap (λ q. q >>= of_note (λ m. trees.Slices m S.tree ss (trees_of os))) is
    ∙ ap (λ (y : trees.Tree). let a : Result Typed Fault = Ok (record { ty = (note_of y).ty; effect = (note_of y).effect; tree = y }) in a) (sym made)

pub slices_refused : (class : Effect) (span : Span) (S : Typed) (os : List Operand) (p : Polynomial) (ss : List SliceShape) (e : Refused) (r : Result Tree Refused) → r ≡ Err e →
    Met note_view (Err e) (slices_note class span S os p) → Met typed_of r (slices_behind class span S ss os p)
slices_refused class span S os p ss e r is h =
    subst (λ q. Met typed_of r q) (sym (finished class span (all_together Pure (S.effect ∷ effects_of os)) (greatest Pure (S.effect ∷ effects_of os)) (bits_of p []) (λ m. trees.Slices m S.tree ss (trees_of os))))
    (stops note_view typed_of (slices_note class span S os p) (of_note (λ m. trees.Slices m S.tree ss (trees_of os))) e r is h)

-- ---- procedures

procedure_finished : (p : Result (Unit {0}) Fault) (class : Effect) (span : Span) (os : List Operand) (own : Effect) (f : trees.Callee) (w : Replacing) →
    (p >> need (all_together Pure (effects_of os)) T13 span >> need (at_most (procedure_effect os own) class) T12 span >> Ok (called f w os (procedure_effect os own)))
    ≡ ((p >> effect_of class span os own) >>= λ k. Ok (called f w os k))
procedure_finished (Err e) class span os own f w = refl
procedure_finished (Ok u) class span os own f w = by (all_together Pure (effects_of os)) (at_most (procedure_effect os own) class)
  where
    by : (a b : Bool) → (need a T13 span >> need b T12 span >> Ok (called f w os (procedure_effect os own))) ≡ ((need a T13 span >> need b T12 span >> Ok (procedure_effect os own)) >>= λ k. Ok (called f w os k))
    by true true = refl
    by true false = refl
    by false b = refl

pub procedure_is : (p : Result (Unit {0}) Fault) (class : Effect) (span : Span) (os : List Operand) (own : Effect) (f : trees.Callee) (w : Replacing) (k : Effect) (x : Called) →
    (p >> effect_of class span os own) ≡ Ok k → x ≡ called f w os k →
    (p >> need (all_together Pure (effects_of os)) T13 span >> need (at_most (procedure_effect os own) class) T12 span >> Ok (called f w os (procedure_effect os own))) ≡ Ok x
procedure_is p class span os own f w k x is made =
    procedure_finished p class span os own f w
    ∙ ap (λ q. q >>= λ j. let a : Result Called Fault = Ok (called f w os j) in a) is
    ∙ ap (λ (y : Called). let a : Result Called Fault = Ok y in a) (sym made)

pub procedure_refused : (p : Result (Unit {0}) Fault) (class : Effect) (span : Span) (os : List Operand) (own : Effect) (f : trees.Callee) (w : Replacing) (e : Refused) (r : Result code.Called Refused) → r ≡ Err e →
    Met (λ (k : Effect). k) (Err e) (p >> effect_of class span os own) →
    Met called_of r (p >> need (all_together Pure (effects_of os)) T13 span >> need (at_most (procedure_effect os own) class) T12 span >> Ok (called f w os (procedure_effect os own)))
procedure_refused p class span os own f w e r is h =
    subst (λ q. Met called_of r q) (sym (procedure_finished p class span os own f w)) (stops (λ (k : Effect). k) called_of (p >> effect_of class span os own) (λ k. Ok (called f w os k)) e r is h)

-- the arguments, and then what is called
pub procedure_by : (t : Tests) (span : Span) (i : Ident) (ps es : List Found) (os : List Operand) (u : Unit {0}) (G : Scope) (r : Result code.Called Refused) → operands es G ≡ Ok os →
    need (is_subprogram (standing_of i.text G.names)) T02 i.span ≡ Ok u → Met called_of r (procedure_of t span i ps os G (routine_named i.text)) → Met called_of r (procedure_rule t span i ps es G)
procedure_by t span i ps es os u G r is so h =
    subst (λ q. Met called_of r q)
    (sym (ap (λ z. (z >>= λ qs. need (is_subprogram (standing_of i.text G.names)) T02 i.span >> Ok qs) >>= λ qs. procedure_of t span i ps qs G (routine_named i.text)) is
    ∙ ap (λ z. (z >> Ok os) >>= λ qs. procedure_of t span i ps qs G (routine_named i.text)) so)) h

-- ---- calls of the library

pub as_many : (t : Tests) (ps : List Expr) (n m : ℕ) (span : Span) → length ps ≡ n → n ≡ m → need (length (map (found t) ps) == m) T11 span ≡ (let o : Result (Unit {0}) Fault = Ok tt in o)
as_many t ps n m span is also = ap (λ b. need b T11 span) same
  where
    same : (length (map (found t) ps) == m) ≡ true
    same = let e : length (map (found t) ps) ≡ m = length-map ps (found t) ∙ is ∙ also in grind (arith, nat_tests, e)
