-- Names of bitfields, each once.
use Rattle.std.proofs.Common.{◌≡◌, ℕ, ◌+◌, ◌<◌, ◌≤◌, Bool, true, false, cond, not, ◌&&◌, length, get_or, drop, map, List, [], ◌∷◌, ◌++◌, Option, Some, None, refl, sym, ap, ◌∙◌}
use Rattle.std.proofs.lemmas.List.{drop_all, map_push}
use Rattle.std.specs.Prelude.{is_some}
use Rattle.std.specs.Str.{bytes_eq}
use Rattle.asl_rules.specs.values.Members.{has_name}
use Rattle.asl_rules.specs.types.Types.{BitField}
use Rattle.asl_rules.specs.types.Writing.{names_once}
use Rattle.asl_types.proofs.Rest.{at_next}
use Rattle.asl_names.specs.private.Firsts.{Places, first_place, kept, kept_by}
use Rattle.asl_names.proofs.FirstLemmas.{same_test}

abbrev pub names_of : Places → List (List ℕ)
names_of ps = map (λ p. p.0) ps

kept_name : (name : List ℕ) (ps : Places) → has_name name (names_of ps) ≡ is_some (first_place name ps)
kept_name name [] = refl
kept_name name (p ∷ ps) = ap (λ b. cond b true (has_name name (names_of ps))) (same_test p.0 name) ∙ by (kept_name name ps) (bytes_eq name p.0)
  where
    by : has_name name (names_of ps) ≡ is_some (first_place name ps) → (b : Bool) → cond b true (has_name name (names_of ps)) ≡ is_some (cond b (Some p.1) (first_place name ps))
    by rest true = refl
    by rest false = rest

pub once_next : (all : Bool) (fs : List BitField) (i : ℕ) (f : BitField) (ps qs : Places) →
    i < length fs → f ≡ get_or fs i f → is_some (first_place f.name ps) ≡ false → first_place f.name ps ≡ None → qs ≡ kept f.name i ps →
    all ≡ names_once (drop i fs) (names_of ps) → all ≡ names_once (drop (i + 1) fs) (names_of qs)
once_next all fs i f ps qs within here not_so none more before =
    before
    ∙ ap (λ xs. names_once xs (names_of ps)) (at_next fs i f within here)
    ∙ ap (λ b. not b && names_once (drop (i + 1) fs) (names_of ps ++ f.name ∷ [])) (kept_name f.name ps ∙ not_so)
    ∙ ap (λ ns. names_once (drop (i + 1) fs) ns) (sym (ap names_of (more ∙ ap (λ o. kept_by o f.name i ps) none) ∙ map_push (λ p. p.0) ps (f.name, i)))

pub once_stop : (all : Bool) (fs : List BitField) (i : ℕ) (f : BitField) (ps : Places) →
    i < length fs → f ≡ get_or fs i f → is_some (first_place f.name ps) ≡ true →
    all ≡ names_once (drop i fs) (names_of ps) → false ≡ all
once_stop all fs i f ps within here does before =
    sym (before
    ∙ ap (λ xs. names_once xs (names_of ps)) (at_next fs i f within here)
    ∙ ap (λ b. not b && names_once (drop (i + 1) fs) (names_of ps ++ f.name ∷ [])) (kept_name f.name ps ∙ does))

pub once_last : (all : Bool) (fs : List BitField) (i : ℕ) (ps : Places) → length fs ≤ i → all ≡ names_once (drop i fs) (names_of ps) → true ≡ all
once_last all fs i ps past before = sym (before ∙ ap (λ xs. names_once xs (names_of ps)) (drop_all i fs past))
