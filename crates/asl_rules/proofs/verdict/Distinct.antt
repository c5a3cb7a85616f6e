-- The names that a program declares are distinct, but for those of subprograms; so what a name stands for is found where it
-- is declared.
use Rattle.std.proofs.Common.{◌≡◌, ℕ, ◌⊎◌, inl, inr, not, Bool, true, false, cond, List, [], ◌∷◌, ◌++◌, Option, Some, None, Ok, refl, sym, ap, ◌∙◌, subst, map}
use Rattle.std.specs.Prelude.{if◌then◌else◌}
use Rattle.std.specs.Str.{bytes_eq}
use Rattle.asl_syn.specs.declared.code.StaticCode.TheVariants.{T01}
use Rattle.asl_syn.specs.declared.tree.Decl.{Decl}
use Rattle.asl_rules.specs.Faults.{need}
use Rattle.asl_rules.specs.declarations.Names.{library, is_listed, Declared, declared_by, standing, may_share, is_new, names_rule, all_declared}
use Rattle.asl_rules.specs.declarations.Scopes.{Entry, Standing, Stored, Subprogram, TypeName, Label, subprogram, standing_of}
use Rattle.asl_rules.proofs.basics.Inversions.{then_ok, need_ok}
use Rattle.asl_rules.proofs.basics.Tests.{no, some_same, none_some, both, same_name, name_is}
use Rattle.asl_rules.proofs.scopes.Lookups.{behind, before_is, apart_from, Apart}

-- ---- what the rule says of names

-- those behind a name of this sort that have it are subprograms, as it is
abbrev Later : List ℕ → Bool → List Declared → Type 0
Later n a [] = Unit {0}
Later n a (y ∷ ys) = (bytes_eq y.name.text n ≡ true → (a ≡ true) × (y.is_subprogram ≡ true)) × Later n a ys

abbrev pub ApartFrom : Declared → List Declared → Type 0
ApartFrom x [] = Unit {0}
ApartFrom x (y ∷ ys) = (bytes_eq y.name.text x.name.text ≡ true → (x.is_subprogram ≡ true) × (y.is_subprogram ≡ true)) × ApartFrom x ys

abbrev pub Distinct : List Declared → Type 0
Distinct [] = Unit {0}
Distinct (x ∷ xs) = (is_listed library x.name.text ≡ false) × ApartFrom x xs × Distinct xs

first_stays : (b a : Bool) (x : Bool) (o p : Option Bool) → (o ≡ Some a → p ≡ Some a) → (if b then Some x else o) ≡ Some a → (if b then Some x else p) ≡ Some a
first_stays true a x o p f h = h
first_stays false a x o p f h = f h

stays : (bs : List Declared) (y : Declared) (n : List ℕ) (a : Bool) → standing bs n ≡ Some a → standing (bs ++ y ∷ []) n ≡ Some a
stays [] y n a h = none_some a h
stays (x ∷ bs) y n a h = first_stays (bytes_eq x.name.text n) a x.is_subprogram (standing bs n) (standing (bs ++ y ∷ []) n) (stays bs y n a) h

first_ends : (b x y : Bool) (o p : Option Bool) → (o ≡ None → p ≡ Some y) → (if b then Some x else o) ≡ None → (if b then Some x else p) ≡ Some y
first_ends true x y o p f h = none_some x (sym h)
first_ends false x y o p f h = f h

ends : (bs : List Declared) (y : Declared) (n : List ℕ) → standing bs n ≡ None → bytes_eq y.name.text n ≡ true → standing (bs ++ y ∷ []) n ≡ Some y.is_subprogram
ends [] y n h q = ap (λ b. if b then Some y.is_subprogram else None) q
ends (x ∷ bs) y n h q = first_ends (bytes_eq x.name.text n) x.is_subprogram y.is_subprogram (standing bs n) (standing (bs ++ y ∷ []) n) (λ e. ends bs y n e q) h

not_listed : (b : Bool) → not b ≡ true → b ≡ false
not_listed true h = no h
not_listed false h = refl

new_is : (bs : List Declared) (y : Declared) → is_new bs y ≡ true → (is_listed library y.name.text ≡ false) × (may_share (standing bs y.name.text) y.is_subprogram ≡ true)
new_is bs y h = let p = both (not (is_listed library y.name.text)) (may_share (standing bs y.name.text) y.is_subprogram) h in (not_listed (is_listed library y.name.text) p.0, p.1)

later : (xs bs : List Declared) (n : List ℕ) (a : Bool) → standing bs n ≡ Some a → names_rule bs xs ≡ Ok tt → Later n a xs
later [] bs n a h k = tt
later (y ∷ ys) bs n a h k =
    let p = then_ok (need (is_new bs y) T01 y.name.span) (names_rule (bs ++ y ∷ []) ys) tt k in
    let s = (new_is bs y (need_ok (is_new bs y) T01 y.name.span tt p.first)).1 in (
      λ q. both a y.is_subprogram (sym (ap (λ o. may_share o y.is_subprogram) (ap (standing bs) (same_name y.name.text n q) ∙ h)) ∙ s),
      later ys (bs ++ y ∷ []) n a (stays bs y n a h) p.then,
    )

apart_of : (x : Declared) (a : Bool) (xs : List Declared) → (a ≡ true → x.is_subprogram ≡ true) → Later x.name.text a xs → ApartFrom x xs
apart_of x a [] f l = tt
apart_of x a (y ∷ ys) f l = (λ q. let r = l.0 q in (f r.0, r.1), apart_of x a ys f l.1)

apart_by : (x : Declared) (xs bs : List Declared) (o : Option Bool) → standing bs x.name.text ≡ o → may_share o x.is_subprogram ≡ true → names_rule (bs ++ x ∷ []) xs ≡ Ok tt → ApartFrom x xs
apart_by x xs bs None q s k = apart_of x x.is_subprogram xs (λ e. e) (later xs (bs ++ x ∷ []) x.name.text x.is_subprogram (ends bs x x.name.text q (name_is x.name.text)) k)
apart_by x xs bs (Some a) q s k = apart_of x a xs (λ e. (both a x.is_subprogram s).1) (later xs (bs ++ x ∷ []) x.name.text a (stays bs x x.name.text a q) k)

pub distinct_of : (xs bs : List Declared) → names_rule bs xs ≡ Ok tt → Distinct xs
distinct_of [] bs k = tt
distinct_of (x ∷ xs) bs k =
    let p = then_ok (need (is_new bs x) T01 x.name.span) (names_rule (bs ++ x ∷ []) xs) tt k in
    let n = new_is bs x (need_ok (is_new bs x) T01 x.name.span tt p.first) in
    (n.0, apart_by x xs bs (standing bs x.name.text) refl n.1 p.then, distinct_of xs (bs ++ x ∷ []) p.then)

-- ---- names among those that are declared

abbrev pub NotIn : List ℕ → List Declared → Type 0
NotIn n [] = Unit {0}
NotIn n (y ∷ ys) = (bytes_eq y.name.text n ≡ false) × NotIn n ys

-- a type, storage or a label of this name
abbrev pub Plain : List ℕ → List Declared → Type 0
Plain n [] = ⊥
Plain n (x ∷ xs) = ((x.name.text ≡ n) × (x.is_subprogram ≡ false)) ⊎ Plain n xs

pub plain_first : (n : List ℕ) (xs ys : List Declared) → Plain n xs → Plain n (xs ++ ys)
plain_first n [] ys p = absurd p
plain_first n (x ∷ xs) ys (inl e) = inl e
plain_first n (x ∷ xs) ys (inr p) = inr (plain_first n xs ys p)

pub plain_second : (n : List ℕ) (xs ys : List Declared) → Plain n ys → Plain n (xs ++ ys)
plain_second n [] ys p = p
plain_second n (x ∷ xs) ys p = inr (plain_second n xs ys p)

pub plain_new : (n : List ℕ) (xs : List Declared) → Distinct xs → Plain n xs → is_listed library n ≡ false
plain_new n [] d p = absurd p
plain_new n (x ∷ xs) d (inl e) = ap (is_listed library) (sym e.0) ∙ d.0
plain_new n (x ∷ xs) d (inr p) = plain_new n xs d.2 p

never_sub : {A : Type 0} (b : Bool) → b ≡ false → b ≡ true → A
never_sub b f t = no (sym f ∙ t)

pub differs : (b : Bool) (m n : List ℕ) → bytes_eq m n ≡ b → (bytes_eq m n ≡ true → false ≡ true) → bytes_eq m n ≡ false
differs true m n q f = no (f q)
differs false m n q f = q

apart_plain : (y : Declared) (n : List ℕ) (zs : List Declared) → ApartFrom y zs → Plain n zs → bytes_eq y.name.text n ≡ false
apart_plain y n [] a p = absurd p
apart_plain y n (x ∷ zs) a (inl e) = differs (bytes_eq y.name.text n) y.name.text n refl (λ q. never_sub x.is_subprogram e.1 (a.0 (ap (λ m. bytes_eq m y.name.text) (e.0 ∙ sym (same_name y.name.text n q)) ∙ name_is y.name.text)).1)
apart_plain y n (x ∷ zs) a (inr p) = apart_plain y n zs a.1 p

pub front_not_in : (n : List ℕ) (ys zs : List Declared) → Distinct (ys ++ zs) → Plain n zs → NotIn n ys
front_not_in n [] zs d p = tt
front_not_in n (y ∷ ys) zs d p = (apart_plain y n (ys ++ zs) d.1 (plain_second n ys zs p), front_not_in n ys zs d.2 p)

pub rest_distinct : (ys zs : List Declared) → Distinct (ys ++ zs) → Distinct zs
rest_distinct [] zs d = d
rest_distinct (y ∷ ys) zs d = rest_distinct ys zs d.2

-- what stands behind a type, storage or a label doesn't have its name
pub apart_later : (x : Declared) (zs : List Declared) → x.is_subprogram ≡ false → ApartFrom x zs → NotIn x.name.text zs
apart_later x [] s a = tt
apart_later x (y ∷ zs) s a = (differs (bytes_eq y.name.text x.name.text) y.name.text x.name.text refl (λ q. never_sub x.is_subprogram s (a.0 q).0), apart_later x zs s a.1)

pub in_first : (n : List ℕ) (xs ys : List Declared) → NotIn n (xs ++ ys) → NotIn n xs
in_first n [] ys h = tt
in_first n (x ∷ xs) ys h = (h.0, in_first n xs ys h.1)

pub in_second : (n : List ℕ) (xs ys : List Declared) → NotIn n (xs ++ ys) → NotIn n ys
in_second n [] ys h = h
in_second n (x ∷ xs) ys h = in_second n xs ys h.1

pub back_not_in : (n : List ℕ) (ys zs : List Declared) → Distinct (ys ++ zs) → Plain n ys → NotIn n zs
back_not_in n [] zs d p = absurd p
back_not_in n (y ∷ ys) zs d (inl e) = subst (λ m. NotIn m zs) e.0 (in_second y.name.text ys zs (apart_later y (ys ++ zs) e.1 d.1))
back_not_in n (y ∷ ys) zs d (inr p) = back_not_in n ys zs d.2 p

-- ---- entries with the names that are declared

abbrev pub SameSort : Bool → Standing → Type 0
SameSort true st = st ≡ Subprogram
SameSort false (Stored s) = Unit {0}
SameSort false Subprogram = ⊥
SameSort false (TypeName T) = Unit {0}
SameSort false (Label T x) = Unit {0}

abbrev pub AllNamed : List Declared → List Entry → Type 0
AllNamed [] [] = Unit {0}
AllNamed [] (e ∷ es) = ⊥
AllNamed (x ∷ xs) [] = ⊥
AllNamed (x ∷ xs) (e ∷ es) = (e.name ≡ x.name.text) × SameSort x.is_subprogram e.standing × AllNamed xs es

-- no subprogram
abbrev pub IsPlain : Standing → Type 0
IsPlain (Stored s) = Unit {0}
IsPlain Subprogram = ⊥
IsPlain (TypeName T) = Unit {0}
IsPlain (Label T x) = Unit {0}

-- each entry has the name that is declared in its place, and a subprogram's stands for one
abbrev pub HasNames : List Declared → List Entry → Type 0
HasNames [] [] = Unit {0}
HasNames [] (e ∷ es) = ⊥
HasNames (x ∷ xs) [] = ⊥
HasNames (x ∷ xs) (e ∷ es) = (e.name ≡ x.name.text) × (x.is_subprogram ≡ true → e.standing ≡ Subprogram) × HasNames xs es

sub_of : (b : Bool) (st : Standing) → SameSort b st → b ≡ true → st ≡ Subprogram
sub_of true st s h = s
sub_of false st s h = no h

pub has_names : (xs : List Declared) (es : List Entry) → AllNamed xs es → HasNames xs es
has_names [] [] a = tt
has_names [] (e ∷ es) a = absurd a
has_names (x ∷ xs) [] a = absurd a
has_names (x ∷ xs) (e ∷ es) a = (a.0, sub_of x.is_subprogram e.standing a.1, has_names xs es a.2)

pub names_append : (xs ys : List Declared) (es fs : List Entry) → HasNames xs es → HasNames ys fs → HasNames (xs ++ ys) (es ++ fs)
names_append [] ys [] fs a b = b
names_append [] ys (e ∷ es) fs a b = absurd a
names_append (x ∷ xs) ys [] fs a b = absurd a
names_append (x ∷ xs) ys (e ∷ es) fs a b = (a.0, a.1, names_append xs ys es fs a.2 b)

pub none_named : (n : List ℕ) (xs : List Declared) (es : List Entry) → HasNames xs es → NotIn n xs → standing_of n es ≡ None
none_named n [] [] a h = refl
none_named n [] (e ∷ es) a h = absurd a
none_named n (x ∷ xs) [] a h = absurd a
none_named n (x ∷ xs) (e ∷ es) a h =
    ap (λ b. cond b (Some e.standing) (standing_of n es)) (ap (λ m. bytes_eq m n) a.0 ∙ h.0) ∙ none_named n xs es a.2 h.1

plain_sort : (b : Bool) (st : Standing) → (b ≡ true → st ≡ Subprogram) → IsPlain st → b ≡ false
plain_sort true st s p = absurd (subst IsPlain (s refl) p)
plain_sort false st s p = refl

named_first : (b : Bool) (n : List ℕ) (x : Declared) (e : Entry) (st : Standing) (o : Option Standing) (xs : List Declared) →
    bytes_eq e.name n ≡ b → e.name ≡ x.name.text → (x.is_subprogram ≡ true → e.standing ≡ Subprogram) →
    cond b (Some e.standing) o ≡ Some st → IsPlain st → (o ≡ Some st → Plain n xs) → Plain n (x ∷ xs)
named_first true n x e st o xs q m s h p next =
    inl (sym m ∙ same_name e.name n q, plain_sort x.is_subprogram e.standing s (subst IsPlain (sym (some_same e.standing st h)) p))
named_first false n x e st o xs q m s h p next = inr (next h)

pub plain_named : (n : List ℕ) (st : Standing) (xs : List Declared) (es : List Entry) → HasNames xs es → standing_of n es ≡ Some st →
    IsPlain st → Plain n xs
plain_named n st [] [] a h p = none_some st h
plain_named n st [] (e ∷ es) a h p = absurd a
plain_named n st (x ∷ xs) [] a h p = absurd a
plain_named n st (x ∷ xs) (e ∷ es) a h p =
    named_first (bytes_eq e.name n) n x e st (standing_of n es) xs refl a.0 a.1 h p (λ k. plain_named n st xs es a.2 k p)

apart_entry : (x : Declared) (e : Entry) (es : List Entry) → (x.is_subprogram ≡ true → e.standing ≡ Subprogram) →
    (x.is_subprogram ≡ false → standing_of e.name es ≡ None) → apart_from e.name e.standing es
apart_entry x e es s f = by e.standing s
  where
    by : (st : Standing) → (x.is_subprogram ≡ true → st ≡ Subprogram) → apart_from e.name st es
    by Subprogram s = tt
    by (Stored u) s = f (plain_sort x.is_subprogram (Stored u) s tt)
    by (TypeName T) s = f (plain_sort x.is_subprogram (TypeName T) s tt)
    by (Label T y) s = f (plain_sort x.is_subprogram (Label T y) s tt)

-- entries with distinct names are apart
pub names_apart : (xs : List Declared) (es : List Entry) → HasNames xs es → Distinct xs → Apart es
names_apart [] [] a d = tt
names_apart [] (e ∷ es) a d = absurd a
names_apart (x ∷ xs) [] a d = absurd a
names_apart (x ∷ xs) (e ∷ es) a d = (
  apart_entry x e es a.1 (λ s. none_named e.name xs es a.2 (subst (λ m. NotIn m xs) (sym a.0) (apart_later x xs s d.1))),
  names_apart xs es a.2 d.2,
)

-- ---- declarations, and the library

-- a member of a list
abbrev pub In : {A : Type 0} → A → List A → Type 0
In x [] = ⊥
In x (y ∷ ys) = (y ≡ x) ⊎ In x ys

pub plain_in : (d : Decl) (ds : List Decl) (n : List ℕ) → In d ds → Plain n (declared_by d) → Plain n (all_declared ds)
plain_in d [] n i p = absurd i
plain_in d (e ∷ ds) n (inl q) p = plain_first n (declared_by e) (all_declared ds) (subst (λ z. Plain n (declared_by z)) (sym q) p)
plain_in d (e ∷ ds) n (inr i) p = plain_second n (declared_by e) (all_declared ds) (plain_in d ds n i p)

none_library : (ns : List (List ℕ)) (n : List ℕ) → is_listed ns n ≡ false → standing_of n (map subprogram ns) ≡ None
none_library [] n h = refl
none_library (m ∷ ns) n h = by (bytes_eq m n) h (none_library ns n)
  where
    by : (b : Bool) → (if b then true else is_listed ns n) ≡ false → (is_listed ns n ≡ false → standing_of n (map subprogram ns) ≡ None) → cond b (Some Subprogram) (standing_of n (map subprogram ns)) ≡ None
    by true h next = no (sym h)
    by false h next = next h

pub behind_library : (n : List ℕ) (es : List Entry) → is_listed library n ≡ false → standing_of n (map subprogram library ++ es) ≡ standing_of n es
behind_library n es h = behind (map subprogram library) es n (none_library library n h)

pub only_subprograms : (ns : List (List ℕ)) (n : List ℕ) (st : Standing) → standing_of n (map subprogram ns) ≡ Some st → st ≡ Subprogram
only_subprograms [] n st h = none_some st h
only_subprograms (m ∷ ns) n st h = by (bytes_eq m n) h (only_subprograms ns n st)
  where
    by : (b : Bool) → cond b (Some Subprogram) (standing_of n (map subprogram ns)) ≡ Some st → (standing_of n (map subprogram ns) ≡ Some st → st ≡ Subprogram) → st ≡ Subprogram
    by true h next = sym (some_same Subprogram st h)
    by false h next = next h

past_by : (n : List ℕ) (es : List Entry) (st : Standing) (o : Option Standing) → standing_of n (map subprogram library) ≡ o → IsPlain st → standing_of n (map subprogram library ++ es) ≡ Some st → standing_of n es ≡ Some st
past_by n es st None q p h = sym (behind (map subprogram library) es n q) ∙ h
past_by n es st (Some own) q p h =
    let e = some_same own st (sym (before_is (map subprogram library) es n own q) ∙ h) in
    absurd (subst IsPlain (sym e ∙ only_subprograms library n own q) p)

-- what is no subprogram stands behind the library
pub past_library : (n : List ℕ) (es : List Entry) (st : Standing) → IsPlain st → standing_of n (map subprogram library ++ es) ≡ Some st → standing_of n es ≡ Some st
past_library n es st p h = past_by n es st (standing_of n (map subprogram library)) refl p h

pub library_apart : (ns : List (List ℕ)) (es : List Entry) → Apart es → Apart (map subprogram ns ++ es)
library_apart [] es a = a
library_apart (n ∷ ns) es a = (tt, library_apart ns es a)
