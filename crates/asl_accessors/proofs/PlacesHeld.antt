-- Which places have to hold their declarations while those that replace others are taken from them, and that none is emptied too early.
use Rattle.std.proofs.Common.{◌≡◌, ◌≢◌, ◌⊎◌, ℕ, ◌-◌, Bool, true, false, List, [], ◌∷◌, get_or, set, Option, Some, None, inl, inr, refl, sym, ap, ◌∙◌, subst, arith, get_or-set_other}
use Rattle.std.specs.Prelude.{if◌then◌else◌, slice_get}
use Rattle.std.specs.Str.{bytes_eq}
use Rattle.std.proofs.lemmas.Bool.{and_from, and_parts, false≢true}
use Rattle.std.proofs.lemmas.Option.{same_Some}
use Rattle.std.proofs.lemmas.Slice.Eq.{bytes_eq-Decides}
use Rattle.asl_syn.specs.declared.read.ReadDecl.{ReadDecl}
use Rattle.asl_rules.specs.declarations.Keys.{Key}
use Rattle.asl_rules.specs.declarations.Replacing.{Header, has_header, has_word, header_of, is_impdef, is_implementation, some_with}
use Rattle.asl_accessors.specs.declared.matching.Part.{Part}
use Rattle.asl_accessors.specs.declared.matching.Part.TheVariants.{Stays, Replaced, AlsoReplaced, Replaces}
use Rattle.asl_accessors.specs.private.Parts.{header_part, place_with}
use Rattle.asl_accessors.proofs.PartsSaid.{found, part_is, word_of, IsPart, IsReplaced}

-- ---- what is wanted

-- a place is wanted for a declaration that is replaced
abbrev pub IsWantedFor : ℕ → Part → Type 0
IsWantedFor p Stays = ⊥
IsWantedFor p (Replaced q) = p ≡ q
IsWantedFor p (AlsoReplaced q) = p ≡ q
IsWantedFor p Replaces = ⊥

-- for one of these
abbrev pub IsWanted : List ReadDecl → ℕ → List ReadDecl → Type 0
IsWanted all p [] = ⊥
IsWanted all p (d ∷ ds) = IsWantedFor p (header_part all ds (header_of d)) ⊎ IsWanted all p ds

-- each place that is wanted holds its declaration
abbrev pub AreHeld : List ReadDecl → List ReadDecl → List (Option ReadDecl) → Type 0
AreHeld all ds placed = (p : ℕ) → IsWanted all p ds → get_or placed p None ≡ slice_get all p

-- ---- it is the place of the `implementation` that replaces one of these

record IsNamed (all : List ReadDecl) (p : ℕ) (ds : List ReadDecl) : Type 0 where
  pub key : Key
  pub some : some_with is_impdef key ds ≡ true
  pub place : place_with is_implementation key 0 all ≡ Some p

bytes_eq_self : (k : Key) → bytes_eq k k ≡ true
bytes_eq_self k = (bytes_eq-Decides k k).1 refl

named : {all ds : List ReadDecl} {d : ReadDecl} {also : Bool} {p : ℕ} → IsReplaced all ds d also p → IsNamed all p (d ∷ ds)
named {ds = ds} {d = d} r =
    let has : has_header is_impdef r.header.key (header_of d) ≡ true =
    ap (has_header is_impdef r.header.key) r.of_it ∙ and_from (is_impdef r.header.word) (bytes_eq r.header.key r.header.key) r.word (bytes_eq_self r.header.key) in
    record {
      key = r.header.key;
      some = ap (λ (b : Bool). if b then true else some_with is_impdef r.header.key ds) has;
      place = r.place;
    }

named_more : {all ds : List ReadDecl} {p : ℕ} (d : ReadDecl) → IsNamed all p ds → IsNamed all p (d ∷ ds)
named_more {ds = ds} d w = record { key = w.key; some = by (has_header is_impdef w.key (header_of d)); place = w.place }
  where
    by : (b : Bool) → (if b then true else some_with is_impdef w.key ds) ≡ true
    by true = refl
    by false = w.some

named_here : (all ds : List ReadDecl) (d : ReadDecl) (p : ℕ) (part : Part) → IsPart all ds d part → IsWantedFor p part → IsNamed all p (d ∷ ds)
named_here all ds d p Stays s w = absurd w
named_here all ds d p (Replaced q) s w = subst (λ (m : ℕ). IsNamed all m (d ∷ ds)) (sym w) (named s)
named_here all ds d p (AlsoReplaced q) s w = subst (λ (m : ℕ). IsNamed all m (d ∷ ds)) (sym w) (named s)
named_here all ds d p Replaces s w = absurd w

is_named : (all : List ReadDecl) (p : ℕ) (ds : List ReadDecl) → IsWanted all p ds → IsNamed all p ds
is_named all p [] w = absurd w
is_named all p (d ∷ ds) (inl w) = named_here all ds d p (header_part all ds (header_of d)) (part_is all ds d) w
is_named all p (d ∷ ds) (inr w) = named_more d (is_named all p ds w)

pub wanted_is_implementation : (all : List ReadDecl) (p : ℕ) (ds : List ReadDecl) → IsWanted all p ds →
    (e : ReadDecl) × ((slice_get all p ≡ Some e) × (has_word is_implementation (header_of e) ≡ true))
wanted_is_implementation all p ds w =
    let n = is_named all p ds w in
    let f = found is_implementation n.key 0 all p n.place in
    let here : p ≡ p - 0 = omega arith in
    (f.decl, (ap (slice_get all) here ∙ f.stands, word_of is_implementation n.key (header_of f.decl) f.has))

-- ---- behind the last that it replaces, it isn't wanted any more

same_keys : (o : Option Header) (k l : Key) → has_header is_implementation k o ≡ true → has_header is_implementation l o ≡ true → k ≡ l
same_keys None k l s t = absurd (false≢true s)
same_keys (Some h) k l s t =
    sym ((bytes_eq-Decides h.key k).0 (and_parts (is_implementation h.word) (bytes_eq h.key k) s).1)
    ∙ (bytes_eq-Decides h.key l).0 (and_parts (is_implementation h.word) (bytes_eq h.key l) t).1

not_wanted : (all : List ReadDecl) (p q : ℕ) (d : ReadDecl) (ds : List ReadDecl) → IsReplaced all ds d false q → IsWanted all p ds → p ≢ q
not_wanted all p q d ds r w e =
    let n = is_named all p ds w in
    let f = found is_implementation n.key 0 all p n.place in
    let g = found is_implementation r.header.key 0 all q r.place in
    let here : q - 0 ≡ p - 0 = omega (arith, e) in
    let same : g.decl ≡ f.decl = same_Some g.decl f.decl (sym g.stands ∙ ap (slice_get all) here ∙ f.stands) in
    let key : n.key ≡ r.header.key =
    same_keys (header_of f.decl) n.key r.header.key f.has
    (subst (λ (d : ReadDecl). has_header is_implementation r.header.key (header_of d) ≡ true) same g.has) in
    false≢true (sym r.again ∙ sym (ap (λ (k : Key). some_with is_impdef k ds) key) ∙ n.some)

-- and the others hold what they held
pub still_held : (all : List ReadDecl) (q : ℕ) (d : ReadDecl) (ds : List ReadDecl) (placed : List (Option ReadDecl)) → IsReplaced all ds d false q →
    AreHeld all ds placed → AreHeld all ds (set placed q None)
still_held all q d ds placed r h p w = get_or-set_other placed q p None None (not_wanted all p q d ds r w) ∙ h p w
