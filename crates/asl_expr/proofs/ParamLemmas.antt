-- What stands for the parameters of a call, one by one.
use Rattle.std.proofs.Common.{◌≡◌, ℕ, zero, suc, ◌+◌, ◌<◌, ◌≤◌, Bool, true, false, cond, map, length, get_or, drop, List, [], ◌∷◌, ◌++◌, Option, Some, None, Result, Ok, Err, refl, sym, ap, ◌∙◌, append_assoc, arith}
use Rattle.std.specs.Prelude.{◌==◌}
use Rattle.std.proofs.lemmas.Bool.{false≢true}
use Rattle.std.proofs.lemmas.Bool.Decides.{nat_tests}
use Rattle.std.proofs.lemmas.List.{drop_all, length-map}
use Rattle.asl_syn.specs.declared.token.Span.{Span}
use Rattle.asl_syn.specs.declared.code.Fault.{Fault}
use Rattle.asl_syn.specs.declared.code.StaticCode.TheVariants.{T11}
use Rattle.asl_syn.specs.declared.tree.Expr.{Expr}
use Rattle.asl_poly.specs.Terms.{Summand}
use Rattle.asl_poly.specs.Poly.{is_factor}
use Rattle.asl_rules.specs.expressions.Calls.{Given, Giving, Replacing, given, replacing, written_first, argument_first, widths_given, widths_omitted, widths_rule, given_by_argument, is_width_alone}
use Rattle.asl_rules.specs.expressions.Exprs.{found}
use Rattle.asl_rules.specs.Faults.{◌>>=◌, ◌>>◌, need, found_or}
use Rattle.asl_rules.specs.declarations.Scopes.{Scope, Param, Signature}
use Rattle.asl_rules.specs.Tests.{Tests}
use Rattle.asl_rules.specs.types.Types.{Ty, Parts, part, width_of}
use Rattle.asl_rules.specs.expressions.Typing.{Width, Operand}
use Rattle.asl_types.proofs.Rest.{at_next}
use Rattle.asl_types.specs.View.{parts_of}
use Rattle.asl_tree.specs.declared.tree.Tree.{Tree}
use Rattle.asl_tree.specs.View.{operand_of, all_operands}
use Rattle.asl_written.proofs.ConstraintLemmas.{append_none}
use Rattle.asl_expr.specs.CallViews.{none_replaced, with_written, with_argument, with_rest, behind_replaced}

abbrev Found : Type 0
Found = Result Replacing Fault

whole : (r : Replacing) → with_rest r none_replaced ≡ r
whole r j = record { given = append_none r.given j; places = append_none r.places j; trees = append_none r.trees j }

-- ---- in braces

written_more : (r s : Replacing) (w : Width) (span : Span) (q : Found) → s ≡ with_written r (given w.poly span) w.tree →
    behind_replaced r (q >>= λ x. Ok (written_first (given w.poly span) w.tree x)) ≡ behind_replaced s q
written_more r s w span (Err e) more = refl
written_more r s w span (Ok x) more =
    ap (λ (y : Replacing). let a : Found = Ok y in a) joined
    ∙ ap (λ (y : Replacing). behind_replaced y (Ok x)) (sym more)
  where
    joined : with_rest r (written_first (given w.poly span) w.tree x) ≡ with_rest (with_written r (given w.poly span) w.tree) x
    joined i = record {
      given = sym (append_assoc r.given (given w.poly span ∷ []) x.given) i;
      places = r.places ++ x.places;
      trees = sym (append_assoc r.trees (w.tree ∷ []) x.trees) i;
    }

written_at : (t : Tests) (e : Expr) (r : Replacing) (w : Result Width Fault) (q : Found) →
    behind_replaced r (w >>= λ v. q >>= λ x. Ok (written_first (given v.poly (found t e).span) v.tree x)) ≡ (w >>= λ v. behind_replaced (with_written r (given v.poly (found t e).span) v.tree) q)
written_at t e r (Err f) q = refl
written_at t e r (Ok v) q = written_more r (with_written r (given v.poly (found t e).span) v.tree) v (found t e).span q refl

-- all of them, by the next
pub written_opened : (t : Tests) (all : Found) (es : List Expr) (i : ℕ) (e : Expr) (r : Replacing) (G : Scope) →
    i < length es → e ≡ get_or es i e →
    all ≡ behind_replaced r (widths_given (map (found t) (drop i es)) G) →
    all ≡ ((found t e).width G >>= λ v. behind_replaced (with_written r (given v.poly (found t e).span) v.tree) (widths_given (map (found t) (drop (i + 1) es)) G))
written_opened t all es i e r G within here before =
    before
    ∙ ap (λ xs. behind_replaced r (widths_given (map (found t) xs) G)) (at_next es i e within here)
    ∙ written_at t e r ((found t e).width G) (widths_given (map (found t) (drop (i + 1) es)) G)

pub written_next : (t : Tests) (all : Found) (es : List Expr) (i : ℕ) (e : Expr) (r s : Replacing) (w : Width) (span : Span) (G : Scope) →
    i < length es → e ≡ get_or es i e → (found t e).width G ≡ Ok w → span ≡ (found t e).span → s ≡ with_written r (given w.poly span) w.tree →
    all ≡ behind_replaced r (widths_given (map (found t) (drop i es)) G) → all ≡ behind_replaced s (widths_given (map (found t) (drop (i + 1) es)) G)
written_next t all es i e r s w span G within here is at more before =
    before
    ∙ ap (λ xs. behind_replaced r (widths_given (map (found t) xs) G)) (at_next es i e within here)
    ∙ ap (λ q. behind_replaced r (q >>= λ v. widths_given (map (found t) (drop (i + 1) es)) G >>= λ x. Ok (written_first (given v.poly (found t e).span) v.tree x))) is
    ∙ ap (λ (at : Span). behind_replaced r (widths_given (map (found t) (drop (i + 1) es)) G >>= λ x. Ok (written_first (given w.poly at) w.tree x))) (sym at)
    ∙ written_more r s w span (widths_given (map (found t) (drop (i + 1) es)) G) more

pub written_last : (t : Tests) (all : Found) (es : List Expr) (i : ℕ) (r : Replacing) (G : Scope) → length es ≤ i →
    all ≡ behind_replaced r (widths_given (map (found t) (drop i es)) G) → all ≡ Ok r
written_last t all es i r G past before =
    before
    ∙ ap (λ xs. behind_replaced r (widths_given (map (found t) xs) G)) (drop_all i es past)
    ∙ ap (λ (y : Replacing). let a : Found = Ok y in a) (whole r)

pub replaced_first : (q : Found) → q ≡ behind_replaced none_replaced q
replaced_first (Ok x) = refl
replaced_first (Err e) = refl

-- ---- as many as there are parameters

same_number : (m n : ℕ) → m ≡ n → (m == n) ≡ true
same_number m n e = grind (arith, nat_tests)

-- those in braces, as many as there are parameters
pub widths_written : (t : Tests) (span : Span) (f : Signature) (es : List Expr) (os : List Operand) (G : Scope) (b : Bool) → b ≡ (length es == 0) → b ≡ false → length es ≡ length f.params →
    widths_rule span f (map (found t) es) os G ≡ widths_given (map (found t) es) G
widths_written t span f [] os G b h k e = absurd (false≢true (sym k ∙ h))
widths_written t span f (x ∷ es) os G b h k e =
    ap (λ q. need q T11 span >> widths_given (map (found t) (x ∷ es)) G) (same_number (length (map (found t) (x ∷ es))) (length f.params) (length-map (x ∷ es) (found t) ∙ e))

-- ---- omitted

omitted_more : (r s : Replacing) (g : Giving) (q : Found) → s ≡ with_argument r g.given g.place →
    behind_replaced r (q >>= λ x. Ok (argument_first g.given g.place x)) ≡ behind_replaced s q
omitted_more r s g (Err e) more = refl
omitted_more r s g (Ok x) more =
    ap (λ (y : Replacing). let a : Found = Ok y in a) joined
    ∙ ap (λ (y : Replacing). behind_replaced y (Ok x)) (sym more)
  where
    joined : with_rest r (argument_first g.given g.place x) ≡ with_rest (with_argument r g.given g.place) x
    joined i = record {
      given = sym (append_assoc r.given (g.given ∷ []) x.given) i;
      places = sym (append_assoc r.places (g.place ∷ []) x.places) i;
      trees = r.trees ++ x.trees;
    }

pub omitted_next : (span : Span) (all : Found) (ps : List Param) (i : ℕ) (p : Param) (r s : Replacing) (g : Giving) (Ts : Parts) (os : List Operand) →
    i < length ps → p ≡ get_or ps i p → given_by_argument p.atom 0 Ts os ≡ Some g → s ≡ with_argument r g.given g.place →
    all ≡ behind_replaced r (widths_omitted span (drop i ps) Ts os) → all ≡ behind_replaced s (widths_omitted span (drop (i + 1) ps) Ts os)
omitted_next span all ps i p r s g Ts os within here is more before =
    before
    ∙ ap (λ xs. behind_replaced r (widths_omitted span xs Ts os)) (at_next ps i p within here)
    ∙ ap (λ o. behind_replaced r (found_or o T11 span >>= λ y. widths_omitted span (drop (i + 1) ps) Ts os >>= λ x. Ok (argument_first y.given y.place x))) is
    ∙ omitted_more r s g (widths_omitted span (drop (i + 1) ps) Ts os) more

pub omitted_stop : (span : Span) (all : Found) (ps : List Param) (i : ℕ) (p : Param) (r : Replacing) (Ts : Parts) (os : List Operand) →
    i < length ps → p ≡ get_or ps i p → given_by_argument p.atom 0 Ts os ≡ None →
    all ≡ behind_replaced r (widths_omitted span (drop i ps) Ts os) → all ≡ found_or None T11 span
omitted_stop span all ps i p r Ts os within here is before =
    before
    ∙ ap (λ xs. behind_replaced r (widths_omitted span xs Ts os)) (at_next ps i p within here)
    ∙ ap (λ o. behind_replaced r (found_or o T11 span >>= λ y. widths_omitted span (drop (i + 1) ps) Ts os >>= λ x. Ok (argument_first y.given y.place x))) is

pub omitted_last : (span : Span) (all : Found) (ps : List Param) (i : ℕ) (r : Replacing) (Ts : Parts) (os : List Operand) → length ps ≤ i →
    all ≡ behind_replaced r (widths_omitted span (drop i ps) Ts os) → all ≡ Ok r
omitted_last span all ps i r Ts os past before =
    before
    ∙ ap (λ xs. behind_replaced r (widths_omitted span xs Ts os)) (drop_all i ps past)
    ∙ ap (λ (y : Replacing). let a : Found = Ok y in a) (whole r)

-- ---- the argument that gives a parameter

pub giving_here : (all : Option Giving) (atom : ℕ) (Ts : List Ty) (ts : List Tree) (i : ℕ) (T : Ty) (o : Tree) →
    i < length Ts → i < length ts → T ≡ get_or Ts i T → o ≡ get_or ts i o → is_width_alone atom T ≡ true →
    all ≡ given_by_argument atom i (parts_of (drop i Ts)) (all_operands (drop i ts)) → all ≡ Some (record { place = i; given = given (width_of (operand_of o).typed.ty) (operand_of o).span })
giving_here all atom Ts ts i T o within inside here there does before =
    before
    ∙ ap (λ xs. given_by_argument atom i (parts_of xs) (all_operands (drop i ts))) (at_next Ts i T within here)
    ∙ ap (λ xs. given_by_argument atom i (parts_of (T ∷ drop (i + 1) Ts)) (all_operands xs)) (at_next ts i o inside there)
    ∙ ap (λ b. cond b (Some (record { place = i; given = given (width_of (operand_of o).typed.ty) (operand_of o).span })) (given_by_argument atom (suc i) (parts_of (drop (i + 1) Ts)) (all_operands (drop (i + 1) ts)))) does

pub giving_later : (all : Option Giving) (atom : ℕ) (Ts : List Ty) (ts : List Tree) (i : ℕ) (T : Ty) (o : Tree) →
    i < length Ts → i < length ts → T ≡ get_or Ts i T → o ≡ get_or ts i o → is_width_alone atom T ≡ false →
    all ≡ given_by_argument atom i (parts_of (drop i Ts)) (all_operands (drop i ts)) → all ≡ given_by_argument atom (i + 1) (parts_of (drop (i + 1) Ts)) (all_operands (drop (i + 1) ts))
giving_later all atom Ts ts i T o within inside here there not_so before =
    before
    ∙ ap (λ xs. given_by_argument atom i (parts_of xs) (all_operands (drop i ts))) (at_next Ts i T within here)
    ∙ ap (λ xs. given_by_argument atom i (parts_of (T ∷ drop (i + 1) Ts)) (all_operands xs)) (at_next ts i o inside there)
    ∙ ap (λ b. cond b (Some (record { place = i; given = given (width_of (operand_of o).typed.ty) (operand_of o).span })) (given_by_argument atom (suc i) (parts_of (drop (i + 1) Ts)) (all_operands (drop (i + 1) ts)))) not_so
    ∙ ap (λ n. given_by_argument atom n (parts_of (drop (i + 1) Ts)) (all_operands (drop (i + 1) ts))) (let e : suc i ≡ i + 1 = omega arith in e)

pub giving_past : (all : Option Giving) (atom : ℕ) (Ts : List Ty) (ts : List Tree) (i : ℕ) → length Ts ≤ i →
    all ≡ given_by_argument atom i (parts_of (drop i Ts)) (all_operands (drop i ts)) → all ≡ None
giving_past all atom Ts ts i past before = before ∙ ap (λ xs. given_by_argument atom i (parts_of xs) (all_operands (drop i ts))) (drop_all i Ts past)

pub giving_none : (all : Option Giving) (atom : ℕ) (Ts : List Ty) (ts : List Tree) (i : ℕ) → length ts ≤ i →
    all ≡ given_by_argument atom i (parts_of (drop i Ts)) (all_operands (drop i ts)) → all ≡ None
giving_none all atom Ts ts i past before =
    before ∙ ap (λ xs. given_by_argument atom i (parts_of (drop i Ts)) (all_operands xs)) (drop_all i ts past) ∙ none (drop i Ts)
  where
    none : (Us : List Ty) → given_by_argument atom i (parts_of Us) [] ≡ None
    none [] = refl
    none (U ∷ Us) = refl

-- ---- an atom alone

pub not_one : (atom : ℕ) (ts : List Summand) → (length ts ≡ 1 → ⊥) → false ≡ is_factor atom ts
not_one atom [] h = refl
not_one atom (t ∷ []) h = absurd (h refl)
not_one atom (t ∷ u ∷ ts) h = refl
