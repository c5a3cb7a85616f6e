-- Parameters and arguments of a call, one by one.
use Rattle.std.proofs.Common.{◌≡◌, ℕ, ◌+◌, ◌<◌, ◌≤◌, length, get_or, drop, map, List, [], ◌∷◌, ◌++◌, Result, Ok, Err, refl, sym, ap, ◌∙◌, append_assoc}
use Rattle.std.proofs.lemmas.List.{drop_all}
use Rattle.asl_syn.specs.declared.token.Span.{Span}
use Rattle.asl_syn.specs.declared.code.Fault.{Fault}
use Rattle.asl_rules.specs.expressions.Calls.{Given, replaced_by, params_fit, arguments_fit, fits_written, fits_replaced}
use Rattle.asl_rules.specs.Faults.{◌>>◌}
use Rattle.asl_rules.specs.declarations.Scopes.{Param}
use Rattle.asl_rules.specs.Tests.{Tests}
use Rattle.asl_rules.specs.types.Types.{Ty, Widths}
use Rattle.asl_types.proofs.Rest.{at_next}
use Rattle.asl_types.specs.View.{parts_of}
use Rattle.asl_tree.specs.declared.tree.Tree.{Tree}
use Rattle.asl_tree.specs.View.{operand_of, all_operands}
use Rattle.asl_written.proofs.ConstraintLemmas.{append_none}
use Rattle.asl_expr.specs.declared.params.GivenWidth.{GivenWidth}
use Rattle.asl_expr.specs.CallViews.{given_of, all_given}

-- ---- pairs

pub pairs_next : (ps : List Param) (gs : List GivenWidth) (i : ℕ) (p : Param) (g : GivenWidth) (by more all : Widths) →
    i < length ps → i < length gs → p ≡ get_or ps i p → g ≡ get_or gs i g → more ≡ by ++ (p.atom, g.width) ∷ [] →
    by ++ replaced_by (drop i ps) (all_given (drop i gs)) ≡ all → more ++ replaced_by (drop (i + 1) ps) (all_given (drop (i + 1) gs)) ≡ all
pairs_next ps gs i p g by more all within inside here there grown before =
    ap (λ xs. xs ++ replaced_by (drop (i + 1) ps) (all_given (drop (i + 1) gs))) grown
    ∙ append_assoc by ((p.atom, g.width) ∷ []) (replaced_by (drop (i + 1) ps) (all_given (drop (i + 1) gs)))
    ∙ ap (λ xs. by ++ replaced_by (p ∷ drop (i + 1) ps) (all_given xs)) (sym (at_next gs i g inside there))
    ∙ ap (λ xs. by ++ replaced_by xs (all_given (drop i gs))) (sym (at_next ps i p within here))
    ∙ before

no_more : (ps : List Param) → replaced_by ps [] ≡ []
no_more [] = refl
no_more (p ∷ ps) = refl

pub pairs_short : (ps : List Param) (gs : List GivenWidth) (i : ℕ) (by all : Widths) → length gs ≤ i → by ++ replaced_by (drop i ps) (all_given (drop i gs)) ≡ all → by ≡ all
pairs_short ps gs i by all past before =
    sym (append_none by) ∙ ap (λ xs. by ++ xs) (sym (no_more (drop i ps))) ∙ ap (λ xs. by ++ replaced_by (drop i ps) (all_given xs)) (sym (drop_all i gs past)) ∙ before

pub pairs_last : (ps : List Param) (gs : List GivenWidth) (i : ℕ) (by all : Widths) → length ps ≤ i → by ++ replaced_by (drop i ps) (all_given (drop i gs)) ≡ all → by ≡ all
pairs_last ps gs i by all past before =
    sym (append_none by) ∙ ap (λ xs. by ++ replaced_by xs (all_given (drop i gs))) (sym (drop_all i ps past)) ∙ before

-- ---- parameters

abbrev Fits : Type 0
Fits = Result (Unit {0}) Fault

pub params_next : (t : Tests) (span : Span) (by : Widths) (all : Fits) (ps : List Param) (gs : List GivenWidth) (i : ℕ) (p : Param) (g : GivenWidth) →
    i < length ps → i < length gs → p ≡ get_or ps i p → g ≡ get_or gs i g → fits_written t span by p.ty (given_of g) ≡ Ok tt →
    all ≡ params_fit t span by (drop i ps) (all_given (drop i gs)) → all ≡ params_fit t span by (drop (i + 1) ps) (all_given (drop (i + 1) gs))
params_next t span by all ps gs i p g within inside here there fit before =
    before
    ∙ ap (λ xs. params_fit t span by xs (all_given (drop i gs))) (at_next ps i p within here)
    ∙ ap (λ xs. params_fit t span by (p ∷ drop (i + 1) ps) (all_given xs)) (at_next gs i g inside there)
    ∙ ap (λ r. r >> params_fit t span by (drop (i + 1) ps) (all_given (drop (i + 1) gs))) fit

pub params_stop : (t : Tests) (span : Span) (by : Widths) (all : Fits) (ps : List Param) (gs : List GivenWidth) (i : ℕ) (p : Param) (g : GivenWidth) (f : Fault) →
    i < length ps → i < length gs → p ≡ get_or ps i p → g ≡ get_or gs i g → fits_written t span by p.ty (given_of g) ≡ Err f →
    all ≡ params_fit t span by (drop i ps) (all_given (drop i gs)) → all ≡ Err f
params_stop t span by all ps gs i p g f within inside here there fit before =
    before
    ∙ ap (λ xs. params_fit t span by xs (all_given (drop i gs))) (at_next ps i p within here)
    ∙ ap (λ xs. params_fit t span by (p ∷ drop (i + 1) ps) (all_given xs)) (at_next gs i g inside there)
    ∙ ap (λ r. r >> params_fit t span by (drop (i + 1) ps) (all_given (drop (i + 1) gs))) fit

pub params_short : (t : Tests) (span : Span) (by : Widths) (all : Fits) (ps : List Param) (gs : List GivenWidth) (i : ℕ) → length gs ≤ i →
    all ≡ params_fit t span by (drop i ps) (all_given (drop i gs)) → all ≡ Ok tt
params_short t span by all ps gs i past before = before ∙ ap (λ xs. params_fit t span by (drop i ps) (all_given xs)) (drop_all i gs past) ∙ none (drop i ps)
  where
    none : (qs : List Param) → params_fit t span by qs [] ≡ Ok tt
    none [] = refl
    none (q ∷ qs) = refl

pub params_last : (t : Tests) (span : Span) (by : Widths) (all : Fits) (ps : List Param) (gs : List GivenWidth) (i : ℕ) → length ps ≤ i →
    all ≡ params_fit t span by (drop i ps) (all_given (drop i gs)) → all ≡ Ok tt
params_last t span by all ps gs i past before = before ∙ ap (λ xs. params_fit t span by xs (all_given (drop i gs))) (drop_all i ps past)

-- ---- arguments

pub arguments_next : (t : Tests) (span : Span) (by : Widths) (all : Fits) (Ts : List Ty) (os : List Tree) (i : ℕ) (T : Ty) (o : Tree) →
    i < length Ts → i < length os → T ≡ get_or Ts i T → o ≡ get_or os i o → fits_replaced t span by (operand_of o).typed.ty T (operand_of o).span ≡ Ok tt →
    all ≡ arguments_fit t span by (parts_of (drop i Ts)) (all_operands (drop i os)) → all ≡ arguments_fit t span by (parts_of (drop (i + 1) Ts)) (all_operands (drop (i + 1) os))
arguments_next t span by all Ts os i T o within inside here there fit before =
    before
    ∙ ap (λ xs. arguments_fit t span by (parts_of xs) (all_operands (drop i os))) (at_next Ts i T within here)
    ∙ ap (λ xs. arguments_fit t span by (parts_of (T ∷ drop (i + 1) Ts)) (all_operands xs)) (at_next os i o inside there)
    ∙ ap (λ r. r >> arguments_fit t span by (parts_of (drop (i + 1) Ts)) (all_operands (drop (i + 1) os))) fit

pub arguments_stop : (t : Tests) (span : Span) (by : Widths) (all : Fits) (Ts : List Ty) (os : List Tree) (i : ℕ) (T : Ty) (o : Tree) (f : Fault) →
    i < length Ts → i < length os → T ≡ get_or Ts i T → o ≡ get_or os i o → fits_replaced t span by (operand_of o).typed.ty T (operand_of o).span ≡ Err f →
    all ≡ arguments_fit t span by (parts_of (drop i Ts)) (all_operands (drop i os)) → all ≡ Err f
arguments_stop t span by all Ts os i T o f within inside here there fit before =
    before
    ∙ ap (λ xs. arguments_fit t span by (parts_of xs) (all_operands (drop i os))) (at_next Ts i T within here)
    ∙ ap (λ xs. arguments_fit t span by (parts_of (T ∷ drop (i + 1) Ts)) (all_operands xs)) (at_next os i o inside there)
    ∙ ap (λ r. r >> arguments_fit t span by (parts_of (drop (i + 1) Ts)) (all_operands (drop (i + 1) os))) fit

pub arguments_short : (t : Tests) (span : Span) (by : Widths) (all : Fits) (Ts : List Ty) (os : List Tree) (i : ℕ) → length os ≤ i →
    all ≡ arguments_fit t span by (parts_of (drop i Ts)) (all_operands (drop i os)) → all ≡ Ok tt
arguments_short t span by all Ts os i past before = before ∙ ap (λ xs. arguments_fit t span by (parts_of (drop i Ts)) (all_operands xs)) (drop_all i os past) ∙ none (drop i Ts)
  where
    none : (Us : List Ty) → arguments_fit t span by (parts_of Us) [] ≡ Ok tt
    none [] = refl
    none (U ∷ Us) = refl

pub arguments_last : (t : Tests) (span : Span) (by : Widths) (all : Fits) (Ts : List Ty) (os : List Tree) (i : ℕ) → length Ts ≤ i →
    all ≡ arguments_fit t span by (parts_of (drop i Ts)) (all_operands (drop i os)) → all ≡ Ok tt
arguments_last t span by all Ts os i past before = before ∙ ap (λ xs. arguments_fit t span by (parts_of xs) (all_operands (drop i os))) (drop_all i Ts past)
