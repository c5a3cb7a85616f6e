-- A declaration that takes its turn settles its names among those of all.
use Rattle.std.proofs.Common.{◌≡◌, ℕ, zero, suc, true, false, inl, inr, List, [], ◌∷◌, ◌++◌, map, set, None, refl, sym, ap, ◌∙◌, subst}
use Rattle.std.specs.Str.{bytes_eq}
use Rattle.std.proofs.lemmas.List.{append-nil}
use Rattle.asl_syn.specs.declared.code.Fault.{Fault}
use Rattle.asl_syn.specs.declared.tree.Ident.{Ident}
use Rattle.asl_syn.specs.declared.tree.Decl.{Decl}
use Rattle.asl_syn.specs.declared.tree.Decl.TheVariants as dc
use Rattle.asl_rules.specs.declarations.Names.{Declared, declared_as, declared_by, all_declared, labels_of, library}
use Rattle.asl_rules.specs.declarations.Scopes.{Entry, subprogram, standing_of, with_entries}
use Rattle.asl_rules.specs.declarations.Turns.{Judged, Waiting, Fine, Faulty, SoFar, reserved, entries_or, entries, names_so_far}
use Rattle.asl_rules.specs.declarations.Turns.{takes_turn, all_waiting}
use Rattle.asl_rules.proofs.basics.Tests.{no, some_same, none_some}
use Rattle.asl_rules.proofs.scopes.Lookups.{behind}
use Rattle.asl_rules.proofs.scopes.EachOnce.{entries_same}
use Rattle.asl_rules.proofs.verdict.Distinct.{Distinct, NotIn, Plain, HasNames, none_named, plain_new, plain_second, front_not_in}
use Rattle.asl_rules.proofs.verdict.Distinct.{apart_later, in_first, rest_distinct, behind_library}
use Rattle.asl_rules.proofs.verdict.Named.{StandsIn, AllStand, reserved_names}
use Rattle.asl_rules.proofs.verdict.Turning.{each_waiting}
use Rattle.asl_names.proofs.Bridge.{At}
use Rattle.asl_judge.specs.private.Settling.{StandFor, all_settled, HaveStandIns, CameBy, brings, all_reserved}
use Rattle.asl_judge.proofs.Settling.{NotNamed, Fresh, all_both, settled_all, have_stand_ins}

-- ---- stand-ins are fresh

-- types, storage and labels
abbrev AllPlain : List Declared → Type 0
AllPlain [] = Unit {0}
AllPlain (x ∷ xs) = (x.is_subprogram ≡ false) × AllPlain xs

labels_plain : (is : List Ident) → AllPlain (map (declared_as false) is)
labels_plain [] = tt
labels_plain (i ∷ is) = (refl, labels_plain is)

turn_plain : (d : Decl) → takes_turn d ≡ true → AllPlain (declared_by d)
turn_plain (dc.Type d) h = (refl, labels_plain (labels_of d.def))
turn_plain (dc.Storage d) h = (refl, tt)
turn_plain (dc.Func f) h = no h

not_named : (n : List ℕ) (xs : List Declared) (rs : List Entry) → HasNames xs rs → NotIn n xs → NotNamed n rs
not_named n [] [] a h = tt
not_named n [] (r ∷ rs) a h = absurd a
not_named n (x ∷ xs) [] a h = absurd a
not_named n (x ∷ xs) (r ∷ rs) a h = (ap (λ m. bytes_eq m n) a.0 ∙ h.0, not_named n xs rs a.2 h.1)

-- none of these types, storage and labels is visible
abbrev NoneVisible : List Entry → List Declared → Type 0
NoneVisible N xs = (n : List ℕ) → Plain n xs → standing_of n N ≡ None

all_fresh : (N : List Entry) (xs ys : List Declared) (rs : List Entry) → HasNames xs rs → AllPlain xs → Distinct (xs ++ ys) →
    NoneVisible N (xs ++ ys) → Fresh N rs
all_fresh N [] ys [] a p d h = tt
all_fresh N [] ys (r ∷ rs) a p d h = absurd a
all_fresh N (x ∷ xs) ys [] a p d h = absurd a
all_fresh N (x ∷ xs) ys (r ∷ rs) a p d h = (
  ap (λ n. standing_of n N) a.0 ∙ h x.name.text (inl (refl, p.0)),
  not_named r.name xs rs a.2 (subst (λ n. NotIn n xs) (sym a.0) (in_first x.name.text xs ys (apart_later x (xs ++ ys) p.0 d.1))),
  all_fresh N xs ys rs a.2 p.1 d.2 (λ n q. h n (inr q)),
)

none_after : (N : List Entry) (xs ys : List Declared) (es : List Entry) → HasNames xs es → Distinct (xs ++ ys) → NoneVisible N (xs ++ ys) →
    NoneVisible (with_entries es N) ys
none_after N xs ys es a d h n p =
    sym (entries_same es N n) ∙ behind N es n (h n (plain_second n xs ys p)) ∙ none_named n xs es a (front_not_in n xs ys d p)

none_first : (xs : List Declared) → Distinct xs → NoneVisible (map subprogram library) xs
none_first xs d n p = sym (ap (standing_of n) (append-nil (map subprogram library))) ∙ behind_library n [] (plain_new n xs d p)

-- ---- the declaration at a place

-- what it brings can be settled, and then the names are those of the state in which it is well formed
record Settles (ds : List Decl) (js : SoFar) (n : ℕ) (es N : List Entry) : Type 0 where
  have : HaveStandIns es (with_entries (entries ds js) N)
  are : all_settled es (with_entries (entries ds js) N) ≡ with_entries (entries ds (set js n (Fine es))) N

settles_here : (d : Decl) (ds : List Decl) (js : SoFar) (es N : List Entry) → takes_turn d ≡ true → StandFor (reserved d) es →
    Distinct (declared_by d ++ all_declared ds) → NoneVisible N (declared_by d ++ all_declared ds) →
    Settles (d ∷ ds) (Waiting ∷ js) zero es N
settles_here d ds js es N h s x k =
    let f = all_fresh N (declared_by d) (all_declared ds) (reserved d) (reserved_names d) (turn_plain d h) x k in
    record { have = have_stand_ins (entries ds js) (reserved d) es N s f; are = settled_all (entries ds js) (reserved d) es N s f }

settles_later : (d : Decl) (ds : List Decl) (j : Judged) (js : SoFar) (n : ℕ) (es N : List Entry) →
    Settles ds js n es (with_entries (entries_or d j) N) → Settles (d ∷ ds) (j ∷ js) (suc n) es N
settles_later d ds j js n es N s = record {
  have = subst (HaveStandIns es) (sym (all_both (entries_or d j) (entries ds js) N)) s.have;
  are =
      ap (all_settled es) (all_both (entries_or d j) (entries ds js) N) ∙ s.are
      ∙ sym (all_both (entries_or d j) (entries ds (set js n (Fine es))) N);
}

module _ (d : Decl) (es : List Entry) (h : takes_turn d ≡ true) (s : StandFor (reserved d) es) where
  settles_at : (ds : List Decl) (js : SoFar) (n : ℕ) (N : List Entry) → AllStand ds js → Distinct (all_declared ds) →
      NoneVisible N (all_declared ds) → At ds n d → At js n Waiting → Settles ds js n es N
  settles_at [] js n N a x k p q = none_some d p
  settles_at (e ∷ ds) [] n N a x k p q = absurd a
  settles_at (e ∷ ds) (j ∷ js) zero N a x k p q =
      let e_is = some_same e d p in
      subst (λ z. Settles (z ∷ ds) (j ∷ js) zero es N) (sym e_is)
      (subst (λ i. Settles (d ∷ ds) (i ∷ js) zero es N) (sym (some_same j Waiting q))
      (settles_here d ds js es N h s (subst (λ z. Distinct (declared_by z ++ all_declared ds)) e_is x)
      (subst (λ z. NoneVisible N (declared_by z ++ all_declared ds)) e_is k)))
  settles_at (e ∷ ds) (j ∷ js) (suc n) N a x k p q =
      settles_later e ds j js n es N
      (settles_at ds js n (with_entries (entries_or e j) N) a.1 (rest_distinct (declared_by e) (all_declared ds) x)
      (none_after N (declared_by e) (all_declared ds) (entries_or e j) a.0 x k) p q)

-- one with a fault keeps its stand-ins
faulty_at : (ds : List Decl) (js : SoFar) (n : ℕ) (f : Fault) → At js n Waiting → entries ds (set js n (Faulty f)) ≡ entries ds js
faulty_at [] js n f q = refl
faulty_at (d ∷ ds) [] n f q = none_some Waiting q
faulty_at (d ∷ ds) (j ∷ js) zero f q = ap (λ k. entries_or d k ++ entries ds js) (sym (some_same j Waiting q))
faulty_at (d ∷ ds) (j ∷ js) (suc n) f q = ap (λ es. entries_or d j ++ es) (faulty_at ds js n f q)

-- ---- what stands in the places of all

stand_names : (xs : List Declared) (rs es : List Entry) → AllPlain xs → HasNames xs rs → StandFor rs es → HasNames xs es
stand_names [] [] [] p a s = tt
stand_names [] [] (e ∷ es) p a s = absurd s
stand_names [] (r ∷ rs) es p a s = absurd a
stand_names (x ∷ xs) [] es p a s = absurd a
stand_names (x ∷ xs) (r ∷ rs) [] p a s = absurd s
stand_names (x ∷ xs) (r ∷ rs) (e ∷ es) p a s = (s.0 ∙ a.0, λ h. no (sym p.0 ∙ h), stand_names xs rs es p.1 a.2 s.2)

one_stands : (d : Decl) (k : Judged) → takes_turn d ≡ true → CameBy (reserved d) k → StandsIn d k
one_stands d Waiting h c = absurd c
one_stands d (Fine es) h c = stand_names (declared_by d) (reserved d) es (turn_plain d h) (reserved_names d) c
one_stands d (Faulty f) h c = reserved_names d

all_stand : (ds : List Decl) (js : SoFar) (n : ℕ) (d : Decl) (k : Judged) → AllStand ds js → At ds n d → StandsIn d k →
    AllStand ds (set js n k)
all_stand [] [] n d k a p s = tt
all_stand [] (j ∷ js) n d k a p s = absurd a
all_stand (e ∷ ds) [] n d k a p s = absurd a
all_stand (e ∷ ds) (j ∷ js) zero d k a p s = (subst (λ z. StandsIn z k) (sym (some_same e d p)) s, a.1)
all_stand (e ∷ ds) (j ∷ js) (suc n) d k a p s = (a.0, all_stand ds js n d k a.1 p s)

-- ---- a turn

-- after the declaration at this place was judged so
pub record Kept (ds : List Decl) (js : SoFar) (n : ℕ) (k : Judged) : Type 0 where
  pub have : HaveStandIns (brings k) (names_so_far ds js)
  pub names : all_settled (brings k) (names_so_far ds js) ≡ names_so_far ds (set js n k)
  pub stand : AllStand ds (set js n k)

pub kept_at : (ds : List Decl) (js : SoFar) (n : ℕ) (d : Decl) (k : Judged) → AllStand ds js → Distinct (all_declared ds) → At ds n d →
    At js n Waiting → takes_turn d ≡ true → CameBy (reserved d) k → Kept ds js n k
kept_at ds js n d Waiting a x p q h c = absurd c
kept_at ds js n d (Fine es) a x p q h c =
    let s = settles_at d es h c ds js n (map subprogram library) a x (none_first (all_declared ds) x) p q in
    record { have = s.have; names = s.are; stand = all_stand ds js n d (Fine es) a p (one_stands d (Fine es) h c) }
kept_at ds js n d (Faulty f) a x p q h c = record {
  have = tt;
  names = ap (λ es. with_entries es (map subprogram library)) (sym (faulty_at ds js n f q));
  stand = all_stand ds js n d (Faulty f) a p (one_stands d (Faulty f) h c);
}

-- ---- before the first turn

reserved_are : (ds : List Decl) (N : List Entry) → all_reserved ds N ≡ with_entries (entries ds (all_waiting ds)) N
reserved_are [] N = refl
reserved_are (d ∷ ds) N = reserved_are ds (with_entries (reserved d) N) ∙ sym (all_both (reserved d) (entries ds (all_waiting ds)) N)

pub first_names : (ds : List Decl) (names : List Entry) → names ≡ all_reserved ds (map subprogram library) →
    names ≡ names_so_far ds (all_waiting ds)
first_names ds names h = h ∙ reserved_are ds (map subprogram library)

pub first_stand : (ds : List Decl) → AllStand ds (all_waiting ds)
first_stand ds = each_waiting StandsIn reserved_names ds
