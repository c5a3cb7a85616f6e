-- Names that stand once, by the places at which they stand first.
use Rattle.std.proofs.Common.{◌≡◌, ℕ, suc, Bool, true, false, ◌&&◌, not, List, [], ◌∷◌, ◌++◌, Option, Some, None, Result, Ok, Err, refl, sym, ap, ◌∙◌}
use Rattle.std.specs.Prelude.{if◌then◌else◌}
use Rattle.std.specs.Str.{bytes_eq}
use Rattle.asl_syn.specs.declared.code.Fault.{Fault}
use Rattle.asl_syn.specs.declared.code.StaticCode.TheVariants.{T01}
use Rattle.asl_syn.specs.declared.tree.Formal.{Formal}
use Rattle.asl_syn.specs.declared.tree.Func.{Func}
use Rattle.asl_syn.specs.declared.tree.Param.{Param}
use Rattle.asl_rules.specs.Faults.{◌>>=◌, ◌>>◌, need}
use Rattle.asl_rules.specs.values.Members.{has_name}
use Rattle.asl_rules.specs.declarations.Programs.{params_free, formals_free}
use Rattle.asl_rules.specs.declarations.Scopes.{Entry, is_free, is_absent}
use Rattle.asl_names.specs.private.Firsts.{Places, first_place, kept}
use Rattle.asl_names.proofs.FirstLemmas.{or_place, here, first_kept, same_test}
use Rattle.asl_decl.specs.private.Free.{params_beside, formals_beside, free_beside, free_rule, ended}

-- a name is among the first where it has a place among the second
abbrev pub Alike : List (List ℕ) → Places → Type 0
Alike before places = (n : List ℕ) → not (has_name n before) ≡ is_absent (first_place n places)

one_by : (b : Bool) → not (if b then true else false) ≡ not b
one_by true = refl
one_by false = refl

has_more : (n m : List ℕ) (before : List (List ℕ)) → not (has_name n (before ++ m ∷ [])) ≡ (not (has_name n before) && not (bytes_eq m n))
has_more n m [] = one_by (bytes_eq m n)
has_more n m (x ∷ before) = by (bytes_eq x n) (has_more n m before)
  where
    by : (b : Bool) → not (has_name n (before ++ m ∷ [])) ≡ (not (has_name n before) && not (bytes_eq m n)) → not (if b then true else has_name n (before ++ m ∷ [])) ≡ (not (if b then true else has_name n before) && not (bytes_eq m n))
    by true h = refl
    by false h = h

absent_more : (o : Option ℕ) (b : Bool) (k : ℕ) → is_absent (or_place o (here b k)) ≡ (is_absent o && not b)
absent_more None true k = refl
absent_more None false k = refl
absent_more (Some i) b k = refl

pub alike_more : (before : List (List ℕ)) (places : Places) (m : List ℕ) (k : ℕ) → Alike before places → Alike (before ++ m ∷ []) (kept m k places)
alike_more before places m k h n =
    has_more n m before
    ∙ ap (λ b. b && not (bytes_eq m n)) (h n)
    ∙ ap (λ b. is_absent (first_place n places) && not b) (same_test m n)
    ∙ sym (absent_more (first_place n places) (bytes_eq n m) k)
    ∙ ap is_absent (sym (first_kept n places m k))

formals_are : (fs : List Formal) (n : ℕ) (before : List (List ℕ)) (places : Places) (names : List Entry) → Alike before places → formals_free fs before names ≡ ended (formals_beside fs n places names)
formals_are [] n before places names h = refl
formals_are (f ∷ fs) n before places names h =
    by (is_free f.name.text names && not (has_name f.name.text before)) (is_free f.name.text names && is_absent (first_place f.name.text places)) (ap (λ b. is_free f.name.text names && b) (h f.name.text))
    (formals_are fs (suc n) (before ++ f.name.text ∷ []) (kept f.name.text n places) names (alike_more before places f.name.text n h))
  where
    by : (b c : Bool) → b ≡ c → formals_free fs (before ++ f.name.text ∷ []) names ≡ ended (formals_beside fs (suc n) (kept f.name.text n places) names) →
        (need b T01 f.name.span >> formals_free fs (before ++ f.name.text ∷ []) names) ≡ ended (need c T01 f.name.span >> formals_beside fs (suc n) (kept f.name.text n places) names)
    by b true q k = ap (λ d. need d T01 f.name.span >> formals_free fs (before ++ f.name.text ∷ []) names) q ∙ k
    by b false q k = ap (λ d. need d T01 f.name.span >> formals_free fs (before ++ f.name.text ∷ []) names) q

params_are : (ps : List Param) (n : ℕ) (fs : List Formal) (before : List (List ℕ)) (places : Places) (names : List Entry) → Alike before places →
    (params_free ps before names >>= λ more. formals_free fs more names) ≡ ended (params_beside ps n places names >>= λ more. formals_beside fs 0 more names)
params_are [] n fs before places names h = formals_are fs 0 before places names h
params_are (p ∷ ps) n fs before places names h =
    by (is_free p.name.text names && not (has_name p.name.text before)) (is_free p.name.text names && is_absent (first_place p.name.text places)) (ap (λ b. is_free p.name.text names && b) (h p.name.text))
    (params_are ps (suc n) fs (before ++ p.name.text ∷ []) (kept p.name.text n places) names (alike_more before places p.name.text n h))
  where
    by : (b c : Bool) → b ≡ c → (params_free ps (before ++ p.name.text ∷ []) names >>= λ more. formals_free fs more names) ≡ ended (params_beside ps (suc n) (kept p.name.text n places) names >>= λ more. formals_beside fs 0 more names) →
        ((need b T01 p.name.span >> params_free ps (before ++ p.name.text ∷ []) names) >>= λ more. formals_free fs more names) ≡ ended ((need c T01 p.name.span >> params_beside ps (suc n) (kept p.name.text n places) names) >>= λ more. formals_beside fs 0 more names)
    by b true q k = ap (λ d. (need d T01 p.name.span >> params_free ps (before ++ p.name.text ∷ []) names) >>= λ more. formals_free fs more names) q ∙ k
    by b false q k = ap (λ d. (need d T01 p.name.span >> params_free ps (before ++ p.name.text ∷ []) names) >>= λ more. formals_free fs more names) q

-- the names of a subprogram's parameters and formals, by the places that are kept
pub free_is : (f : Func) (names : List Entry) → free_rule f names ≡ ended (free_beside f names)
free_is f names = params_are f.params 0 f.formals [] [] names (λ n. refl)
