-- What is settled stands where its stand-in stood: the names are those that would have been declared with it.
use Rattle.std.proofs.Common.{◌≡◌, ℕ, Bool, true, false, cond, List, [], ◌∷◌, ◌++◌, map, Option, Some, None, refl, sym, ap}
use Rattle.std.proofs.Common.{◌∙◌, subst}
use Rattle.std.specs.Str.{bytes_eq}
use Rattle.asl_syn.specs.declared.tree.Ident.{Ident}
use Rattle.asl_rules.specs.types.Types.{Ty}
use Rattle.asl_rules.specs.declarations.Scopes.{Entry, Standing, Stored, Subprogram, TypeName, Label, subprogram, standing_of}
use Rattle.asl_rules.specs.declarations.Scopes.{is_subprogram, is_absent, is_free, with_entry, with_entries}
use Rattle.asl_rules.proofs.basics.Tests.{no, name_is, some_none}
use Rattle.asl_rules.proofs.scopes.Lookups.{behind, before_is}
use Rattle.asl_rules.proofs.scopes.EachOnce.{entries_same, turned}
use Rattle.asl_types.specs.private.Standings.{settled}
use Rattle.asl_judge.specs.private.Brought.{labels_brought}
use Rattle.asl_judge.specs.private.Settling.{has_stand_in, StandFor, all_settled, HaveStandIns}

pub all_both : (xs ys N : List Entry) → with_entries (xs ++ ys) N ≡ with_entries ys (with_entries xs N)
all_both [] ys N = refl
all_both (x ∷ xs) ys N = all_both xs ys (with_entry x N)

-- ---- names that are free

absent_both : (c : Bool) (s t : Standing) (o p : Option Standing) → is_absent o ≡ is_absent p →
    is_absent (cond c (Some s) o) ≡ is_absent (cond c (Some t) p)
absent_both true s t o p h = refl
absent_both false s t o p h = h

free_settled : (n m : List ℕ) (s : Standing) (N : List Entry) → is_free m (settled n s N) ≡ is_free m N
free_settled n m s [] = refl
free_settled n m s (e ∷ N) = by (bytes_eq e.name n) (free_settled n m s N)
  where
    by : (b : Bool) → is_free m (settled n s N) ≡ is_free m N →
        is_free m (cond b (record { name = e.name; standing = s } ∷ N) (e ∷ settled n s N)) ≡ is_free m (e ∷ N)
    by true h = absent_both (bytes_eq e.name m) s e.standing (standing_of m N) (standing_of m N) refl
    by false h = absent_both (bytes_eq e.name m) e.standing e.standing (standing_of m (settled n s N)) (standing_of m N) h

-- a name that is visible stays so behind others
visible_front : (n : List ℕ) (N M : List Entry) → is_free n N ≡ false → is_free n (N ++ M) ≡ false
visible_front n N M h = by (standing_of n N) refl h
  where
    by : (o : Option Standing) → standing_of n N ≡ o → is_absent o ≡ false → is_free n (N ++ M) ≡ false
    by None q k = no (sym k)
    by (Some s) q k = ap is_absent (before_is N M n s q)

visible_more : (n : List ℕ) (e : Entry) (N : List Entry) → is_free n N ≡ false → is_free n (with_entry e N) ≡ false
visible_more n e N h = by (is_free e.name N)
  where
    by : (b : Bool) → is_free n (cond b (N ++ e ∷ []) N) ≡ false
    by true = visible_front n N (e ∷ []) h
    by false = h

stands_free : (n : List ℕ) (N : List Entry) → standing_of n N ≡ None → is_free n N ≡ true
stands_free n N h = ap is_absent h

-- a name that is free is behind all others
with_free : (e : Entry) (N : List Entry) → standing_of e.name N ≡ None → with_entry e N ≡ N ++ e ∷ []
with_free e N h = ap (λ b. cond b (N ++ e ∷ []) N) (stands_free e.name N h)

last_is : (n : List ℕ) (e : Entry) (N : List Entry) → e.name ≡ n → standing_of n N ≡ None → standing_of n (N ++ e ∷ []) ≡ Some e.standing
last_is n e N q h = behind N (e ∷ []) n h ∙ ap (λ b. cond b (Some e.standing) None) (ap (λ m. bytes_eq m n) q ∙ name_is n)

-- ---- one name that is settled

settled_front : (n : List ℕ) (s : Standing) (N M : List Entry) → is_free n N ≡ false → settled n s (N ++ M) ≡ settled n s N ++ M
settled_front n s [] M h = no (sym h)
settled_front n s (e ∷ N) M h = by (bytes_eq e.name n) h (settled_front n s N M)
  where
    by : (b : Bool) → is_absent (cond b (Some e.standing) (standing_of n N)) ≡ false →
        (is_free n N ≡ false → settled n s (N ++ M) ≡ settled n s N ++ M) →
        cond b (record { name = e.name; standing = s } ∷ (N ++ M)) (e ∷ settled n s (N ++ M))
        ≡ cond b (record { name = e.name; standing = s } ∷ N) (e ∷ settled n s N) ++ M
    by true k next = refl
    by false k next = ap (λ l. e ∷ l) (next k)

settled_last : (n : List ℕ) (s : Standing) (N : List Entry) (e : Entry) → standing_of n N ≡ None → e.name ≡ n →
    settled n s (N ++ e ∷ []) ≡ N ++ record { name = e.name; standing = s } ∷ []
settled_last n s [] e h q = ap (λ b. cond b (record { name = e.name; standing = s } ∷ []) (e ∷ [])) (ap (λ m. bytes_eq m n) q ∙ name_is n)
settled_last n s (x ∷ N) e h q = by (bytes_eq x.name n) h (λ k. settled_last n s N e k q)
  where
    by : (b : Bool) → cond b (Some x.standing) (standing_of n N) ≡ None →
        (standing_of n N ≡ None → settled n s (N ++ e ∷ []) ≡ N ++ record { name = e.name; standing = s } ∷ []) →
        cond b (record { name = x.name; standing = s } ∷ (N ++ e ∷ [])) (x ∷ settled n s (N ++ e ∷ []))
        ≡ x ∷ (N ++ record { name = e.name; standing = s } ∷ [])
    by true k next = some_none x.standing k
    by false k next = ap (λ l. x ∷ l) (next k)

settled_entry : (n : List ℕ) (s : Standing) (e : Entry) (N : List Entry) → is_free n N ≡ false →
    settled n s (with_entry e N) ≡ with_entry e (settled n s N)
settled_entry n s e N h =
    by (is_free e.name N) ∙ ap (λ b. cond b (settled n s N ++ e ∷ []) (settled n s N)) (sym (free_settled n e.name s N))
  where
    by : (b : Bool) → settled n s (cond b (N ++ e ∷ []) N) ≡ cond b (settled n s N ++ e ∷ []) (settled n s N)
    by true = settled_front n s N (e ∷ []) h
    by false = refl

-- further names change nothing of it
settled_entries : (n : List ℕ) (s : Standing) (es N : List Entry) → is_free n N ≡ false →
    settled n s (with_entries es N) ≡ with_entries es (settled n s N)
settled_entries n s [] N h = refl
settled_entries n s (e ∷ es) N h =
    settled_entries n s es (with_entry e N) (visible_more n e N h) ∙ ap (with_entries es) (settled_entry n s e N h)

-- the name of a stand-in that was free
settled_one : (r e : Entry) (es N : List Entry) → e.name ≡ r.name → standing_of r.name N ≡ None →
    settled e.name e.standing (with_entries (r ∷ es) N) ≡ with_entries (e ∷ es) N
settled_one r e es N q h =
    let k : standing_of e.name N ≡ None = ap (λ n. standing_of n N) q ∙ h in
    let visible : is_free e.name (with_entry r N) ≡ false =
    ap is_absent (ap (standing_of e.name) (with_free r N h) ∙ last_is e.name r N (sym q) k) in
    settled_entries e.name e.standing es (with_entry r N) visible
    ∙ ap (with_entries es) (
    ap (settled e.name e.standing) (with_free r N h)
    ∙ settled_last e.name e.standing N r k (sym q)
    ∙ ap (λ n. N ++ record { name = n; standing = e.standing } ∷ []) (sym q)
    ∙ sym (with_free e N k)
    )

-- a subprogram that is visible is settled as it is
pub settled_subprogram : (n : List ℕ) (N : List Entry) → is_subprogram (standing_of n N) ≡ true → settled n Subprogram N ≡ N
settled_subprogram n [] h = refl
settled_subprogram n (e ∷ N) h = by (bytes_eq e.name n) h (settled_subprogram n N)
  where
    is_one : (s : Standing) → is_subprogram (Some s) ≡ true → Subprogram ≡ s
    is_one (Stored s) k = no k
    is_one Subprogram k = refl
    is_one (TypeName T) k = no k
    is_one (Label T x) k = no k

    by : (b : Bool) → is_subprogram (cond b (Some e.standing) (standing_of n N)) ≡ true →
        (is_subprogram (standing_of n N) ≡ true → settled n Subprogram N ≡ N) →
        cond b (record { name = e.name; standing = Subprogram } ∷ N) (e ∷ settled n Subprogram N) ≡ e ∷ N
    by true k next = ap (λ s. record { name = e.name; standing = s } ∷ N) (is_one e.standing k)
    by false k next = ap (λ l. e ∷ l) (next k)

-- ---- several names

-- no entry has this name
abbrev pub NotNamed : List ℕ → List Entry → Type 0
NotNamed n [] = Unit {0}
NotNamed n (e ∷ es) = (bytes_eq e.name n ≡ false) × NotNamed n es

-- these are free, and differ
abbrev pub Fresh : List Entry → List Entry → Type 0
Fresh N [] = Unit {0}
Fresh N (r ∷ rs) = (standing_of r.name N ≡ None) × NotNamed r.name rs × Fresh N rs

fresh_more : (N : List Entry) (e : Entry) (rs : List Entry) → NotNamed e.name rs → Fresh N rs → Fresh (with_entry e N) rs
fresh_more N e [] d f = tt
fresh_more N e (r ∷ rs) d f = (by (is_free e.name N), f.1, fresh_more N e rs d.1 f.2)
  where
    by : (b : Bool) → standing_of r.name (cond b (N ++ e ∷ []) N) ≡ None
    by true = behind N (e ∷ []) r.name f.0 ∙ ap (λ b. cond b (Some e.standing) None) (turned r.name e.name d.0)
    by false = f.0

module _ (es : List Entry) where
  next_fresh : (N : List Entry) (r e : Entry) (rs : List Entry) → e.name ≡ r.name → NotNamed r.name rs → Fresh N rs →
      Fresh (with_entry e N) rs
  next_fresh N r e rs q d f = fresh_more N e rs (subst (λ n. NotNamed n rs) (sym q) d) f

  pub settled_all : (rs bs N : List Entry) → StandFor rs bs → Fresh N rs →
      all_settled bs (with_entries (rs ++ es) N) ≡ with_entries (bs ++ es) N
  settled_all [] [] N s f = refl
  settled_all [] (e ∷ bs) N s f = absurd s
  settled_all (r ∷ rs) [] N s f = absurd s
  settled_all (r ∷ rs) (e ∷ bs) N s f =
      ap (all_settled bs) (settled_one r e (rs ++ es) N s.0 f.0) ∙ settled_all rs bs (with_entry e N) s.2 (next_fresh N r e rs s.0 f.1 f.2)

  pub have_stand_ins : (rs bs N : List Entry) → StandFor rs bs → Fresh N rs → HaveStandIns bs (with_entries (rs ++ es) N)
  have_stand_ins [] [] N s f = tt
  have_stand_ins [] (e ∷ bs) N s f = absurd s
  have_stand_ins (r ∷ rs) [] N s f = absurd s
  have_stand_ins (r ∷ rs) (e ∷ bs) N s f = (
    ap (has_stand_in e.standing) stands ∙ s.1,
    subst (HaveStandIns bs) (sym (settled_one r e (rs ++ es) N s.0 f.0))
        (have_stand_ins rs bs (with_entry e N) s.2 (next_fresh N r e rs s.0 f.1 f.2)),
  )
    where
      here : standing_of e.name (with_entry r N) ≡ Some r.standing
      here = ap (standing_of e.name) (with_free r N f.0) ∙ last_is e.name r N (sym s.0) (ap (λ n. standing_of n N) s.0 ∙ f.0)

      stands : standing_of e.name (with_entries (rs ++ es) (with_entry r N)) ≡ Some r.standing
      stands = sym (entries_same (rs ++ es) (with_entry r N) e.name) ∙ before_is (with_entry r N) (rs ++ es) e.name r.standing here

-- ---- labels

pub labels_stand : (is : List Ident) (name : List ℕ) (T : Ty) →
    StandFor (map (λ (i : Ident). subprogram i.text) is) (labels_brought is name T)
labels_stand [] name T = tt
labels_stand (i ∷ is) name T = (refl, refl, labels_stand is name T)
