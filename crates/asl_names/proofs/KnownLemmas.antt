-- What the map of the names answers and takes, as the list of its names.
use Rattle.std.proofs.Common.{◌≡◌, ℕ, Bool, List, [], ◌∷◌, map, cond, Some, None, Bor, refl, sym, ap, ◌∙◌}
use Rattle.std.proofs.lemmas.List.{map-append}
use Rattle.std.specs.Str.{bytes_eq}
use Rattle.std.specs.Map.{lookup}
use Rattle.indexmap.specs.IndexMap.{IndexMap, insert_entry}
use Rattle.indexmap.proofs.CallerLemmas.{insert_entry-new}
use Rattle.asl_names.specs.private.Known.{Known, known, with_first, with_name}

abbrev pub named : List (Bor (List ℕ) × Bool) → Known
named es = map (λ e. (e.0.now, e.1)) es

abbrev pub same_name : Bor (List ℕ) → Bor (List ℕ) → Bool
same_name x y = bytes_eq x.now y.now

pub known-named : (es : List (Bor (List ℕ) × Bool)) (name : List ℕ) → known (named es) name ≡ lookup (λ k. bytes_eq name k.now) es
known-named [] name = refl
known-named (e ∷ es) name = ap (cond (bytes_eq name e.0.now) (Some e.1)) (known-named es name)

-- a new name goes last
pub with_name-new : {S : Type 0} (m : IndexMap (Bor (List ℕ)) Bool S) (k : Bor (List ℕ)) (b : Bool) (es : List (Bor (List ℕ) × Bool)) →
    known (named m.entries) k.now ≡ None → es ≡ insert_entry same_name m.entries k b → named es ≡ with_name k.now b (named m.entries)
with_name-new m k b es none h =
    ap named (h ∙ insert_entry-new same_name m k b (sym (known-named m.entries k.now) ∙ none)) ∙ map-append _ m.entries ((k, b) ∷ [])
    ∙ sym (ap (λ o. with_first o k.now b (named m.entries)) none)
