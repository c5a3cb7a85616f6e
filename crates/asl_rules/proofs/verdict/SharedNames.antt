-- Only subprograms share a name: so the names that are visible, which stand once each, stand for what all that is declared does.
use Rattle.std.proofs.Common.{◌≡◌, Bool, true, false, cond, ◌⊎◌, inl, inr, List, [], ◌∷◌, Some, None, refl, sym, ap, ◌∙◌, map}
use Rattle.std.proofs.lemmas.List.{append-nil}
use Rattle.std.specs.Str.{bytes_eq}
use Rattle.asl_syn.specs.declared.tree.Decl.{Decl}
use Rattle.asl_rules.specs.declarations.Names.{library, Declared, all_declared}
use Rattle.asl_rules.specs.declarations.Scopes.{Entry, Subprogram, subprogram, standing_of, with_entry}
use Rattle.asl_rules.specs.declarations.Turns.{SoFar, entries, names_so_far}
use Rattle.asl_rules.proofs.basics.Tests.{no}
use Rattle.asl_rules.proofs.scopes.Lookups.{behind}
use Rattle.asl_rules.proofs.scopes.EachOnce.{with_one, Once, once_entries, turned, NewOrSubprograms}
use Rattle.asl_rules.proofs.verdict.Distinct.{ApartFrom, Distinct, HasNames, behind_library}
use Rattle.asl_rules.proofs.verdict.Named.{AllStand, entries_named}

-- those of these declared names that aren't subprograms' stand for nothing
NoneIn : List Entry → List Declared → Type 0
NoneIn N [] = Unit {0}
NoneIn N (x ∷ xs) = (x.is_subprogram ≡ false → standing_of x.name.text N ≡ None) × NoneIn N xs

none_more : (N : List Entry) (e : Entry) (x : Declared) (ys : List Declared) → e.name ≡ x.name.text → ApartFrom x ys → NoneIn N ys →
    NoneIn (with_entry e N) ys
unfolding NoneIn
none_more N e x [] q a h = tt
none_more N e x (y ∷ ys) q a h = (
  λ s. sym (with_one e N y.name.text) ∙ behind N (e ∷ []) y.name.text (h.0 s)
      ∙ ap (λ b. cond b (Some e.standing) None) (ap (λ m. bytes_eq m y.name.text) q
      ∙ turned y.name.text x.name.text (other (bytes_eq y.name.text x.name.text) refl s)),
  none_more N e x ys q a.1 h.1,
)
  where
    other : (b : Bool) → bytes_eq y.name.text x.name.text ≡ b → y.is_subprogram ≡ false → bytes_eq y.name.text x.name.text ≡ false
    other false k s = k
    other true k s = no (sym s ∙ (a.0 k).1)

new_or_subprogram : (N : List Entry) (e : Entry) (x : Declared) (b : Bool) → x.is_subprogram ≡ b →
    (x.is_subprogram ≡ true → e.standing ≡ Subprogram) → e.name ≡ x.name.text →
    (x.is_subprogram ≡ false → standing_of x.name.text N ≡ None) → (standing_of e.name N ≡ None) ⊎ (e.standing ≡ Subprogram)
new_or_subprogram N e x true k s q h = inr (s k)
new_or_subprogram N e x false k s q h = inl (ap (λ m. standing_of m N) q ∙ h k)

entries_shared : (N : List Entry) (xs : List Declared) (es : List Entry) → HasNames xs es → NoneIn N xs → Distinct xs →
    NewOrSubprograms N es
unfolding NoneIn
entries_shared N [] [] a h d = tt
entries_shared N [] (e ∷ es) a h d = absurd a
entries_shared N (x ∷ xs) [] a h d = absurd a
entries_shared N (x ∷ xs) (e ∷ es) a h d = (
  new_or_subprogram N e x x.is_subprogram refl a.1 a.0 h.0,
  entries_shared (with_entry e N) xs es a.2 (none_more N e x xs a.0 d.1 h.1) d.2,
)

none_library : (xs : List Declared) → Distinct xs → NoneIn (map subprogram library) xs
unfolding NoneIn
none_library [] d = tt
none_library (x ∷ xs) d = (
  λ s. sym (ap (standing_of x.name.text) (append-nil (map subprogram library))) ∙ behind_library x.name.text [] d.0,
  none_library xs d.2,
)

-- ---- the names that are visible

pub names_once : (ds : List Decl) (js : SoFar) → Once (names_so_far ds js)
names_once ds js = once_entries (entries ds js) (map subprogram library) (once_entries (map subprogram library) [] tt)

pub names_shared : (ds : List Decl) (js : SoFar) → AllStand ds js → Distinct (all_declared ds) →
    NewOrSubprograms (map subprogram library) (entries ds js)
names_shared ds js a distinct =
    let new = none_library (all_declared ds) distinct in
    entries_shared (map subprogram library) (all_declared ds) (entries ds js) (entries_named ds js a) new distinct
