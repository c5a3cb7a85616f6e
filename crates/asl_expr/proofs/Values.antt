-- Expressions and the values of fields in order, one by one.
use Rattle.std.proofs.Common.{◌≡◌, ℕ, ◌+◌, ◌<◌, ◌≤◌, length, get_or, drop, map, Bool, true, false, List, [], ◌∷◌, ◌++◌, Option, Result, Ok, Err, refl, sym, ap, subst, ◌∙◌, append_assoc}
use Rattle.std.proofs.lemmas.List.{drop_all, append-nil, map-append}
use Rattle.asl_syn.specs.declared.token.Span.{Span}
use Rattle.asl_syn.specs.declared.code.Fault.{Fault}
use Rattle.asl_syn.specs.declared.code.Refused.{Refused}
use Rattle.asl_syn.specs.declared.code.StaticCode.TheVariants.{T02}
use Rattle.asl_syn.specs.declared.tree.Bitfield.{Bitfield}
use Rattle.asl_syn.specs.declared.tree.ConstraintPart.{ConstraintPart}
use Rattle.asl_syn.specs.declared.tree.Expr.{Expr}
use Rattle.asl_syn.specs.declared.tree.FieldValue.{FieldValue, out-FieldValue}
use Rattle.asl_syn.specs.declared.tree.FieldValue.TheVariants as fv
use Rattle.asl_syn.specs.declared.tree.Pattern.{Pattern}
use Rattle.asl_syn.specs.declared.tree.Slice.{Slice}
use Rattle.asl_syn.specs.declared.tree.TypeExpr.{TypeExpr}
use Rattle.asl_syn.specs.declared.tree.Bitfield.TheOpen as ex
use Rattle.asl_syn.specs.declared.tree.Bitfield.TheFolds.{fold_out-FieldValue, fold-roll-FieldValue}
use Rattle.asl_syn.specs.declared.tree.Ident.{Ident}
use Rattle.asl_rules.specs.statements.Acting.{operand_of as operand_at}
use Rattle.asl_rules.specs.expressions.Calls.{call_begun, function_of, function_rule}
use Rattle.asl_rules.specs.expressions.Exprs.{FoundField, found, expr_rule, given_rule, slice_rule, type_rule, part_rule, bitfield_rule, pattern_rule, values_given, names_given, construct_rule}
use Rattle.asl_rules.specs.Faults.{◌>>=◌, ◌>>◌, need}
use Rattle.asl_rules.specs.values.Members.{construction}
use Rattle.asl_rules.specs.expressions.Patterns.{FoundPattern}
use Rattle.asl_rules.specs.declarations.Routines.{routine_named}
use Rattle.asl_rules.specs.declarations.Scopes.{Scope, is_subprogram, standing_of, type_of_name}
use Rattle.asl_rules.specs.expressions.Slicing.{FoundSlice}
use Rattle.asl_rules.specs.Tests.{Tests}
use Rattle.asl_rules.specs.expressions.Typing.{Found, Typed, Operand, operand, operands}
use Rattle.asl_rules.specs.types.Writing.{FoundPart, FoundBitfield, FoundType}
use Rattle.asl_rules.proofs.basics.Opening.{field_opened}
use Rattle.asl_types.specs.private.Answers.{Met}
use Rattle.asl_types.proofs.Rest.{at_next}
use Rattle.asl_tree.specs.declared.tree.Tree.{Tree}
use Rattle.asl_tree.specs.View.{typed_of, operand_of, all_operands}
use Rattle.asl_typing.specs.private.Constructs.{found_field, found_fields, value_of, given_name, given_names, name_layer}
use Rattle.asl_tree.specs.private.Ends.{behind_operands}

-- ---- fields that are given

field_unrolled : (t : Tests) (g : FieldValue) → found_field t g ≡ given_rule (field_opened t (out-FieldValue g))
field_unrolled t g = fold_out-FieldValue FoundBitfield FoundPart Found FoundField FoundPattern FoundSlice FoundType bitfield_rule part_rule (expr_rule t) given_rule (pattern_rule t) slice_rule (type_rule t) g

name_by : (t : Tests) (l : ex.FieldValue-F Bitfield ConstraintPart Expr FieldValue Pattern Slice TypeExpr) → (given_rule (field_opened t l)).name ≡ name_layer l
name_by t (ex.Given i e) = refl

name_found : (t : Tests) (g : FieldValue) → (found_field t g).name ≡ given_name g
name_found t g = ap (λ (f : FoundField). f.name) (field_unrolled t g) ∙ name_by t (out-FieldValue g)

pub names_found : (t : Tests) (gs : List FieldValue) → names_given (found_fields t gs) ≡ given_names gs
names_found t [] = refl
names_found t (g ∷ gs) = λ i. name_found t g i ∷ names_found t gs i

value_in : (t : Tests) (i : Ident) (e : Expr) → (found_field t (fv.Given i e)).value ≡ found t e
value_in t i e =
    ap (λ u. (found_field t u).value) (sym (fv.rolls-Given i e))
    ∙ ap (λ (f : FoundField). f.value) (fold-roll-FieldValue FoundBitfield FoundPart Found FoundField FoundPattern FoundSlice FoundType bitfield_rule part_rule (expr_rule t) given_rule (pattern_rule t) slice_rule (type_rule t) (ex.Given i e))

-- a construction, whose values were typed
pub construct_by : (t : Tests) (span : Span) (i : Ident) (gs : List FieldValue) (os : List Operand) (G : Scope) (r : Result Tree Refused) → operands (values_given (found_fields t gs)) G ≡ Ok os →
    Met typed_of r (construction t G.class span i (type_of_name i.text G.names) (given_names gs) os) → Met typed_of r (construct_rule t span i (found_fields t gs) G)
construct_by t span i gs os G r w h =
    subst (λ (z : Result Typed Fault). Met typed_of r z)
    (sym (ap (λ q. q >>= λ ps. construction t G.class span i (type_of_name i.text G.names) (names_given (found_fields t gs)) ps) w
    ∙ ap (λ is. construction t G.class span i (type_of_name i.text G.names) is os) (names_found t gs))) h

-- the value of a field is an expression
pub value_is : (t : Tests) (g : FieldValue) (i : Ident) (e f : Expr) (G : Scope) → g ≡ fv.Given i e → f ≡ e → operand_at t f G ≡ value_of t g G
value_is t g i e f G is same =
    ap (λ u. operand_at t u G) same
    ∙ sym (ap (λ (h : Found). h.typed G >>= λ S. let a : Result Operand Fault = Ok (operand h.span S) in a) (ap (λ u. (found_field t u).value) is ∙ value_in t i e))

pub value_met : (t : Tests) (g : FieldValue) (i : Ident) (e : Expr) (G : Scope) (r : Result Tree Refused) → g ≡ fv.Given i e → Met operand_of r (operand_at t e G) → Met operand_of r (value_of t g G)
value_met t g i e G r is h = subst (λ (z : Result Operand Fault). Met operand_of r z) (value_is t g i e e G is refl) h

-- ---- operands

abbrev Answer : Type 0
Answer = Result (List Operand) Fault

pub operands_first : (r : Answer) → r ≡ behind_operands [] r
operands_first (Ok os) = refl
operands_first (Err e) = refl

split : (r : Result Typed Fault) (at : Span) (k : Operand → Answer) → (r >>= λ S. k (operand at S)) ≡ ((r >>= λ S. Ok (operand at S)) >>= k)
split (Ok S) at k = refl
split (Err e) at k = refl

behind_one : (ts : List Tree) (x : Tree) (r : Answer) → behind_operands ts (r >>= λ os. Ok (operand_of x ∷ os)) ≡ behind_operands (ts ++ x ∷ []) r
behind_one ts x (Ok os) = ap (λ ps. let a : Answer = Ok ps in a) (sym (append_assoc (all_operands ts) (operand_of x ∷ []) os) ∙ ap (λ ps. ps ++ os) (sym (map-append operand_of ts (x ∷ []))))
behind_one ts x (Err e) = refl

-- one more, where it is well formed
one_more : (all : Answer) (f : Found) (fs : List Found) (G : Scope) (ts us : List Tree) (x : Tree) → (f.typed G >>= λ S. Ok (operand f.span S)) ≡ Ok (operand_of x) → us ≡ ts ++ x ∷ [] →
    all ≡ behind_operands ts (operands (f ∷ fs) G) → all ≡ behind_operands us (operands fs G)
one_more all f fs G ts us x w more before =
    before
    ∙ ap (behind_operands ts) (split (f.typed G) f.span (λ o. operands fs G >>= λ os. Ok (o ∷ os)))
    ∙ ap (λ r. behind_operands ts (r >>= λ o. operands fs G >>= λ os. Ok (o ∷ os))) w
    ∙ behind_one ts x (operands fs G)
    ∙ ap (λ vs. behind_operands vs (operands fs G)) (sym more)

-- one that isn't
one_stop : (all : Answer) (f : Found) (fs : List Found) (G : Scope) (ts : List Tree) (e : Fault) → (f.typed G >>= λ S. Ok (operand f.span S)) ≡ Err e →
    all ≡ behind_operands ts (operands (f ∷ fs) G) → all ≡ Err e
one_stop all f fs G ts e w before =
    before
    ∙ ap (behind_operands ts) (split (f.typed G) f.span (λ o. operands fs G >>= λ os. Ok (o ∷ os)))
    ∙ ap (λ r. behind_operands ts (r >>= λ o. operands fs G >>= λ os. Ok (o ∷ os))) w

last : (all : Answer) (ts : List Tree) → all ≡ behind_operands ts (Ok []) → all ≡ Ok (all_operands ts)
last all ts before = before ∙ ap (λ ps. let a : Answer = Ok ps in a) (append-nil (all_operands ts))

-- ---- expressions in order

pub exprs_next : (all : Answer) (t : Tests) (es : List Expr) (i : ℕ) (e : Expr) (G : Scope) (ts us : List Tree) (x : Tree) → i < length es → e ≡ get_or es i e → operand_at t e G ≡ Ok (operand_of x) → us ≡ ts ++ x ∷ [] →
    all ≡ behind_operands ts (operands (map (found t) (drop i es)) G) → all ≡ behind_operands us (operands (map (found t) (drop (i + 1) es)) G)
exprs_next all t es i e G ts us x within here w more before =
    one_more all (found t e) (map (found t) (drop (i + 1) es)) G ts us x w more (before ∙ ap (λ fs. behind_operands ts (operands (map (found t) fs) G)) (at_next es i e within here))

pub exprs_stop : (all : Answer) (t : Tests) (es : List Expr) (i : ℕ) (e : Expr) (G : Scope) (ts : List Tree) (f : Fault) → i < length es → e ≡ get_or es i e → operand_at t e G ≡ Err f →
    all ≡ behind_operands ts (operands (map (found t) (drop i es)) G) → all ≡ Err f
exprs_stop all t es i e G ts f within here w before =
    one_stop all (found t e) (map (found t) (drop (i + 1) es)) G ts f w (before ∙ ap (λ fs. behind_operands ts (operands (map (found t) fs) G)) (at_next es i e within here))

pub exprs_last : (all : Answer) (t : Tests) (es : List Expr) (i : ℕ) (G : Scope) (ts : List Tree) → length es ≤ i →
    all ≡ behind_operands ts (operands (map (found t) (drop i es)) G) → all ≡ Ok (all_operands ts)
exprs_last all t es i G ts end before = last all ts (before ∙ ap (λ fs. behind_operands ts (operands (map (found t) fs) G)) (drop_all i es end))

-- ---- values of fields in order

pub values_next : (all : Answer) (t : Tests) (gs : List FieldValue) (i : ℕ) (g : FieldValue) (G : Scope) (ts us : List Tree) (x : Tree) → i < length gs → g ≡ get_or gs i g → value_of t g G ≡ Ok (operand_of x) → us ≡ ts ++ x ∷ [] →
    all ≡ behind_operands ts (operands (values_given (found_fields t (drop i gs))) G) → all ≡ behind_operands us (operands (values_given (found_fields t (drop (i + 1) gs))) G)
values_next all t gs i g G ts us x within here w more before =
    one_more all (found_field t g).value (values_given (found_fields t (drop (i + 1) gs))) G ts us x w more (before ∙ ap (λ hs. behind_operands ts (operands (values_given (found_fields t hs)) G)) (at_next gs i g within here))

pub values_stop : (all : Answer) (t : Tests) (gs : List FieldValue) (i : ℕ) (g : FieldValue) (G : Scope) (ts : List Tree) (f : Fault) → i < length gs → g ≡ get_or gs i g → value_of t g G ≡ Err f →
    all ≡ behind_operands ts (operands (values_given (found_fields t (drop i gs))) G) → all ≡ Err f
values_stop all t gs i g G ts f within here w before =
    one_stop all (found_field t g).value (values_given (found_fields t (drop (i + 1) gs))) G ts f w (before ∙ ap (λ hs. behind_operands ts (operands (values_given (found_fields t hs)) G)) (at_next gs i g within here))

pub values_last : (all : Answer) (t : Tests) (gs : List FieldValue) (i : ℕ) (G : Scope) (ts : List Tree) → length gs ≤ i →
    all ≡ behind_operands ts (operands (values_given (found_fields t (drop i gs))) G) → all ≡ Ok (all_operands ts)
values_last all t gs i G ts end before = last all ts (before ∙ ap (λ hs. behind_operands ts (operands (values_given (found_fields t hs)) G)) (drop_all i gs end))

-- ---- calls

-- the arguments of a call, and then its own conditions
pub call_by : (t : Tests) (span : Span) (i : Ident) (ps es : List Found) (os : List Operand) (G : Scope) → operands es G ≡ Ok os →
    function_rule t span i ps es G ≡ (need (is_subprogram (standing_of i.text G.names)) T02 i.span >> function_of t span i ps os G (routine_named i.text))
call_by t span i ps es os G w =
    ap (λ r. (r >>= λ qs. need (is_subprogram (standing_of i.text G.names)) T02 i.span >> Ok qs) >>= λ qs. function_of t span i ps qs G (routine_named i.text)) w
    ∙ by (need (is_subprogram (standing_of i.text G.names)) T02 i.span)
  where
    by : (u : Result (Unit {0}) Fault) → ((u >> Ok os) >>= λ qs. function_of t span i ps qs G (routine_named i.text)) ≡ (u >> function_of t span i ps os G (routine_named i.text))
    by (Ok v) = refl
    by (Err e) = refl
