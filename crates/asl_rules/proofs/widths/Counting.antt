-- Names that are declared keep scopes such that each `let` counts as names that stand for themselves.
use Rattle.std.proofs.Common.{◌≡◌, ◌⊎◌, inl, inr, ℕ, zero, suc, ◌<◌, ◌≤◌, Bool, true, false, List, [], ◌∷◌, ◌++◌, Option, Some, None, refl, sym, ap, ◌∙◌, subst, arith}
use Rattle.std.specs.Prelude.{if◌then◌else◌}
use Rattle.std.specs.Str.{bytes_eq}
use Rattle.std.proofs.lemmas.Slice.Eq.{bytes_eq-Decides}
use Rattle.asl_poly.specs.Terms.{Summand}
use Rattle.asl_poly.specs.Poly.{IsPolynomial, atom_map}
use Rattle.asl_rules.specs.types.Types.{Ty}
use Rattle.asl_rules.specs.declarations.Scopes.{Counted, Entry, Storage, Standing, Stored, Subprogram, TypeName, Label, is_local, next_atom, name_or_later, name_at, atom_at, fixed, variable, standing_of, storage_in, storage_of, known_value, is_free, is_absent}
use Rattle.asl_rules.specs.private.Worth.{Alone, AllAlone, AtomsAlone, WellCounted}
use Rattle.asl_rules.proofs.basics.Tests.{no}
use Rattle.asl_rules.proofs.widths.WidthsHeld.{atom_is_polynomial}

none_some : {A : Type 0} (x : A) → (let o : Option A = None in o) ≡ Some x → ⊥
none_some x h = cc

kept_if : (b : Bool) (name : List ℕ) (n : ℕ) (es more : List Entry) → n < (if b then suc (suc (next_atom es)) else next_atom es) →
    ((m : ℕ) → m < next_atom es → name_at (es ++ more) m ≡ name_at es m) →
    (if b then name_or_later name n (name_at (es ++ more)) else name_at (es ++ more) n) ≡ (if b then name_or_later name n (name_at es) else name_at es n)
kept_if true name zero es more h f = refl
kept_if true name (suc zero) es more h f = refl
kept_if true name (suc (suc n)) es more h f = f n (omega (arith, h))
kept_if false name n es more h f = f n h

pub name_kept : (names more : List Entry) (n : ℕ) → n < next_atom names → name_at (names ++ more) n ≡ name_at names n
name_kept [] more n h = absurd (omega (arith, h))
name_kept (e ∷ es) more n h = kept_if (is_local e.standing) e.name n es more h (λ m k. name_kept es more m k)

if_kept : (b : Bool) (o p : Option Standing) (x y : Standing) → (o ≡ Some y → p ≡ Some y) → (if b then Some x else o) ≡ Some y → (if b then Some x else p) ≡ Some y
if_kept true o p x y f h = h
if_kept false o p x y f h = f h

pub standing_kept : (name : List ℕ) (names more : List Entry) (x : Standing) → standing_of name names ≡ Some x → standing_of name (names ++ more) ≡ Some x
standing_kept name [] more x h = absurd (none_some x h)
standing_kept name (e ∷ es) more x h = if_kept (bytes_eq e.name name) (standing_of name es) (standing_of name (es ++ more)) e.standing x (standing_kept name es more x) h

pub stored_of : (o : Option Standing) (s : Storage) → storage_in o ≡ Some s → o ≡ Some (Stored s)
stored_of (Some (Stored z)) s h = let e : z ≡ s = cc in ap (λ u. Some (Stored u)) e
stored_of (Some Subprogram) s h = absurd (none_some s h)
stored_of (Some (TypeName T)) s h = absurd (none_some s h)
stored_of (Some (Label T x)) s h = absurd (none_some s h)
stored_of None s h = absurd (none_some s h)

pub storage_kept : (name : List ℕ) (names more : List Entry) (s : Storage) → storage_of name names ≡ Some s → storage_of name (names ++ more) ≡ Some s
storage_kept name names more s h = ap storage_in (standing_kept name names more (Stored s) (stored_of (standing_of name names) s h))

more_if : (b : Bool) (x y : ℕ) → x ≤ y → (if b then suc (suc x) else x) ≤ (if b then suc (suc y) else y)
more_if true x y h = omega (arith, h)
more_if false x y h = h

pub no_fewer : (names more : List Entry) → next_atom names ≤ next_atom (names ++ more)
no_fewer [] more = omega arith
no_fewer (e ∷ es) more = more_if (is_local e.standing) (next_atom es) (next_atom (es ++ more)) (no_fewer es more)

atoms_more : (names more : List Entry) (n : ℕ) → n < next_atom names → n < next_atom (names ++ more)
atoms_more names more n h = let k : next_atom names ≤ next_atom (names ++ more) = no_fewer names more in omega (arith, h, k)

alone_kept : (names more : List Entry) (n : ℕ) → Alone names n → Alone (names ++ more) n
alone_kept names more n h =
    let e : name_at (names ++ more) n ≡ name_at names n = name_kept names more n h.1 in
    (h.0, atoms_more names more n h.1, subst (λ m. storage_of m (names ++ more) ≡ Some h.0) (sym e) (storage_kept (name_at names n) names more h.0 h.2), h.3)

all_kept : (names more : List Entry) (xs : List ℕ) → AllAlone names xs → AllAlone (names ++ more) xs
all_kept names more [] h = tt
all_kept names more (x ∷ xs) h = (alone_kept names more x h.0, all_kept names more xs h.1)

-- widths keep their meaning where more names are visible
pub atoms_kept : (names more : List Entry) (ts : List Summand) → AtomsAlone names ts → AtomsAlone (names ++ more) ts
atoms_kept names more [] h = tt
atoms_kept names more (t ∷ ts) h = (all_kept names more t.factors h.0, atoms_kept names more ts h.1)

if_back : (b : Bool) (x y : Standing) (o p : Option Standing) (A : Type 0) → (p ≡ Some y → (o ≡ Some y) ⊎ A) → (if b then Some x else p) ≡ Some y → ((if b then Some x else o) ≡ Some y) ⊎ A
if_back true x y o p A f h = inl h
if_back false x y o p A f h = f h

last_of : (b : Bool) (x y : Standing) → (if b then Some x else None) ≡ Some y → ((let o : Option Standing = None in o) ≡ Some y) ⊎ (x ≡ y)
last_of true x y h = let e : x ≡ y = cc in inr e
last_of false x y h = absurd (none_some y h)

-- what a name stands for stood there before, or is what was added
pub standing_back : (name : List ℕ) (names : List Entry) (e : Entry) (x : Standing) → standing_of name (names ++ e ∷ []) ≡ Some x → (standing_of name names ≡ Some x) ⊎ (e.standing ≡ x)
standing_back name [] e x h = last_of (bytes_eq e.name name) e.standing x h
standing_back name (d ∷ ds) e x h = if_back (bytes_eq d.name name) d.standing x (standing_of name ds) (standing_of name (ds ++ e ∷ [])) (e.standing ≡ x) (standing_back name ds e x) h

-- what a declaration may count as
abbrev pub NewCounted : List Entry → Entry → Type 0
NewCounted names e = (s : Storage) (c : Counted) → e.standing ≡ Stored s → s.counted ≡ Some c → AtomsAlone (names ++ e ∷ []) c.poly.terms × IsPolynomial c.poly × (known_value s ≡ None)

pub well_kept : (names : List Entry) (e : Entry) → WellCounted names → NewCounted names e → WellCounted (names ++ e ∷ [])
well_kept names e w f = record {
  alone = λ name s c h q. elim (standing_back name names e (Stored s) (stored_of (standing_of name (names ++ e ∷ [])) s h)) [
    | inl k ↦ atoms_kept names (e ∷ []) c.poly.terms (w.alone name s c (ap storage_in k) q)
    | inr k ↦ (f s c k q).0
  ];
  within = λ name s c h q. elim (standing_back name names e (Stored s) (stored_of (standing_of name (names ++ e ∷ [])) s h)) [
    | inl k ↦ w.within name s c (ap storage_in k) q
    | inr k ↦ (f s c k q).1
  ];
  unknown = λ name s c h q. elim (standing_back name names e (Stored s) (stored_of (standing_of name (names ++ e ∷ [])) s h)) [
    | inl k ↦ w.unknown name s c (ap storage_in k) q
    | inr k ↦ (f s c k q).2
  ];
}

-- ---- the declarations of bodies

pub stored_same : (z s : Storage) → Stored z ≡ Stored s → z ≡ s
stored_same z s h = cc

some_same : {A : Type 0} (x y : A) → Some x ≡ Some y → x ≡ y
some_same x y h = cc

-- one that can be assigned
pub variable_counts : (names : List Entry) (name : List ℕ) (T : Ty) → NewCounted names (variable name T)
variable_counts names name T s c k q = let e : s.counted ≡ None = ap (λ (z : Storage). z.counted) (sym (stored_same _ s k)) in absurd (none_some c (sym e ∙ q))

-- one that counts as what stands there already
pub let_counts : (names : List Entry) (name : List ℕ) (T : Ty) (c : Counted) → AtomsAlone names c.poly.terms → IsPolynomial c.poly → NewCounted names (fixed name T (Some c))
let_counts names name T c h i s d k q =
    let e : s.counted ≡ Some c = ap (λ (z : Storage). z.counted) (sym (stored_same _ s k)) in
    let f : c ≡ d = some_same c d (sym e ∙ q) in
    let g : known_value s ≡ None = ap known_value (sym (stored_same _ s k)) in
    (subst (λ (b : Counted). AtomsAlone (names ++ fixed name T (Some c) ∷ []) b.poly.terms) f (atoms_kept names (fixed name T (Some c) ∷ []) c.poly.terms h), subst (λ (b : Counted). IsPolynomial b.poly) f i, g)

last_if : (b : Bool) (name : List ℕ) → b ≡ true → (if b then name_or_later name 0 (name_at []) else name_at [] 0) ≡ name
last_if true name l = refl
last_if false name l = no l

behind_if : (b : Bool) (name : List ℕ) (n : ℕ) (f : ℕ → List ℕ) (x : List ℕ) → f n ≡ x →
    (if b then name_or_later name (if b then suc (suc n) else n) f else f (if b then suc (suc n) else n)) ≡ x
behind_if true name n f x h = h
behind_if false name n f x h = h

-- the next atom is that of the next name of the body
pub last_name : (names : List Entry) (e : Entry) → is_local e.standing ≡ true → name_at (names ++ e ∷ []) (next_atom names) ≡ e.name
last_name [] e l = last_if (is_local e.standing) e.name l
last_name (d ∷ ds) e l = behind_if (is_local d.standing) d.name (next_atom ds) (name_at (ds ++ e ∷ [])) e.name (last_name ds e l)

name_is : (n : List ℕ) → bytes_eq n n ≡ true
name_is n = (bytes_eq-Decides n n).1 refl

standing_last : (b : Bool) (o p : Option Standing) (x y : Standing) → (if b then Some x else o) ≡ None → (o ≡ None → p ≡ Some y) → (if b then Some x else p) ≡ Some y
standing_last true o p x y h f = absurd (none_some x (sym h))
standing_last false o p x y h f = f h

-- a name that wasn't visible stands for what was added
pub standing_new : (names : List Entry) (e : Entry) → standing_of e.name names ≡ None → standing_of e.name (names ++ e ∷ []) ≡ Some e.standing
standing_new [] e h = ap (λ b. if b then Some e.standing else None) (name_is e.name)
standing_new (d ∷ ds) e h = standing_last (bytes_eq d.name e.name) (standing_of e.name ds) (standing_of e.name (ds ++ e ∷ [])) d.standing e.standing h (standing_new ds e)

pub absent_is : (o : Option Standing) → is_absent o ≡ true → o ≡ None
absent_is None h = refl
absent_is (Some x) h = cc

one_if : (b : Bool) → b ≡ true → 0 < (if b then suc (suc 0) else 0)
one_if true l = omega arith
one_if false l = no l

less_if : (b : Bool) (x y : ℕ) → x < y → (if b then suc (suc x) else x) < (if b then suc (suc y) else y)
less_if true x y h = omega (arith, h)
less_if false x y h = h

pub atoms_snoc : (names : List Entry) (e : Entry) → is_local e.standing ≡ true → next_atom names < next_atom (names ++ e ∷ [])
atoms_snoc [] e l = one_if (is_local e.standing) l
atoms_snoc (d ∷ ds) e l = less_if (is_local d.standing) (next_atom ds) (next_atom (ds ++ e ∷ [])) (atoms_snoc ds e l)

alone_new : (names : List Entry) (e : Entry) (s : Storage) → is_free e.name names ≡ true → is_local e.standing ≡ true → e.standing ≡ Stored s → s.counted ≡ Some (atom_at (next_atom names)) →
    Alone (names ++ e ∷ []) (next_atom names)
alone_new names e s f l k q =
    let n : standing_of e.name (names ++ e ∷ []) ≡ Some e.standing = standing_new names e (absent_is (standing_of e.name names) f) in
    let g : storage_of e.name (names ++ e ∷ []) ≡ Some s = ap storage_in n ∙ ap (λ (z : Standing). storage_in (Some z)) k in
    (s, atoms_snoc names e l, subst (λ m. storage_of m (names ++ e ∷ []) ≡ Some s) (sym (last_name names e l)) g, q)

-- one that stands for itself, whose name wasn't visible
pub atom_counts : (names : List Entry) (name : List ℕ) (T : Ty) → is_free name names ≡ true → NewCounted names (fixed name T (Some (atom_at (next_atom names))))
unfolding atom_map
atom_counts names name T f s d k q =
    let e : s.counted ≡ Some (atom_at (next_atom names)) = ap (λ (z : Storage). z.counted) (sym (stored_same _ s k)) in
    let c : atom_at (next_atom names) ≡ d = some_same (atom_at (next_atom names)) d (sym e ∙ q) in
    let g : known_value s ≡ None = ap known_value (sym (stored_same _ s k)) in
    (subst (λ (b : Counted). AtomsAlone (names ++ fixed name T (Some (atom_at (next_atom names))) ∷ []) b.poly.terms) c ((alone_new names (fixed name T (Some (atom_at (next_atom names)))) s f refl k e, tt), tt), subst (λ (b : Counted). IsPolynomial b.poly) c (atom_is_polynomial (next_atom names)), g)
