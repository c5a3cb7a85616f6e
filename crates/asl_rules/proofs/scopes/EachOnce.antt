-- Names that are kept each once: a name stands for what it does among all of them, and nothing is lost but further names of subprograms.
use Rattle.std.proofs.Common.{◌≡◌, ℕ, Bool, true, false, cond, ◌⊎◌, inl, inr, List, [], ◌∷◌, ◌++◌, Option, Some, None, refl, sym, ap, ◌∙◌, append_assoc}
use Rattle.std.proofs.lemmas.List.{append-nil}
use Rattle.std.specs.Str.{bytes_eq}
use Rattle.asl_rules.specs.declarations.Scopes.{Entry, Standing, Stored, Subprogram, TypeName, Label, standing_of, is_absent, is_free, with_entry, with_entries}
use Rattle.asl_rules.proofs.basics.Tests.{no, some_none, same_name, name_is}
use Rattle.asl_rules.proofs.scopes.Lookups.{behind, before_is, apart_from, Apart}

-- ---- what names stand for

-- the names stand for the same
abbrev pub SameStandings : List Entry → List Entry → Type 0
SameStandings N M = (n : List ℕ) → standing_of n N ≡ standing_of n M

-- one more name, where it is free or not, stands as it does at the end
pub with_one : (e : Entry) (es : List Entry) → SameStandings (es ++ e ∷ []) (with_entry e es)
with_one e es n = by (standing_of e.name es) refl
  where
    last : (b : Bool) → bytes_eq e.name n ≡ b → (s : Standing) → standing_of e.name es ≡ Some s → standing_of n (es ++ e ∷ []) ≡ standing_of n es
    last true q s h = let k : standing_of n es ≡ Some s = ap (λ m. standing_of m es) (sym (same_name e.name n q)) ∙ h in before_is es (e ∷ []) n s k ∙ sym k
    last false q s h = other (standing_of n es) refl
      where
        other : (o : Option Standing) → standing_of n es ≡ o → standing_of n (es ++ e ∷ []) ≡ standing_of n es
        other None k = behind es (e ∷ []) n k ∙ ap (λ b. cond b (Some e.standing) None) q ∙ sym k
        other (Some t) k = before_is es (e ∷ []) n t k ∙ sym k

    by : (o : Option Standing) → standing_of e.name es ≡ o → standing_of n (es ++ e ∷ []) ≡ standing_of n (cond (is_absent (standing_of e.name es)) (es ++ e ∷ []) es)
    by None h = ap (λ o. standing_of n (cond (is_absent o) (es ++ e ∷ []) es)) (sym h)
    by (Some s) h = last (bytes_eq e.name n) refl s h ∙ ap (λ o. standing_of n (cond (is_absent o) (es ++ e ∷ []) es)) (sym h)

-- what stands behind two lists that stand for the same
pub behind_same : (es fs xs : List Entry) → SameStandings es fs → SameStandings (es ++ xs) (fs ++ xs)
behind_same es fs xs h n = by (standing_of n es) refl
  where
    by : (o : Option Standing) → standing_of n es ≡ o → standing_of n (es ++ xs) ≡ standing_of n (fs ++ xs)
    by None k = behind es xs n k ∙ sym (behind fs xs n (sym (h n) ∙ k))
    by (Some s) k = before_is es xs n s k ∙ sym (before_is fs xs n s (sym (h n) ∙ k))

-- names that are kept each once stand as all of them do
pub entries_same : (xs es : List Entry) → SameStandings (es ++ xs) (with_entries xs es)
entries_same [] es n = ap (standing_of n) (append-nil es)
entries_same (x ∷ xs) es n =
    ap (standing_of n) (sym (append_assoc es (x ∷ []) xs))
    ∙ behind_same (es ++ x ∷ []) (with_entry x es) xs (with_one x es) n
    ∙ entries_same xs (with_entry x es) n

-- ---- what holds of all names

-- what holds of each of these names holds of each that is kept
pub entries_keep : (Q : List Entry → Type 0) → ((xs ys : List Entry) → Q xs → Q ys → Q (xs ++ ys)) → ((x : Entry) (xs : List Entry) → Q (x ∷ xs) → Q (x ∷ []) × Q xs) → (xs es : List Entry) → Q xs → Q es → Q (with_entries xs es)
entries_keep Q more split [] es a b = b
entries_keep Q more split (x ∷ xs) es a b = let p = split x xs a in entries_keep Q more split xs (with_entry x es) p.1 (by (is_free x.name es) p.0)
  where
    by : (c : Bool) → Q (x ∷ []) → Q (cond c (es ++ x ∷ []) es)
    by true k = more es (x ∷ []) b k
    by false k = b

-- ---- each name stands once

abbrev pub Once : List Entry → Type 0
Once [] = Unit {0}
Once (e ∷ es) = (standing_of e.name es ≡ None) × Once es

pub turned : (m n : List ℕ) → bytes_eq m n ≡ false → bytes_eq n m ≡ false
turned m n h = by (bytes_eq n m) refl
  where
    by : (b : Bool) → bytes_eq n m ≡ b → bytes_eq n m ≡ false
    by false q = q
    by true q = no (sym h ∙ (ap (bytes_eq m) (same_name n m q) ∙ name_is m))

none_here : (x : Entry) (n : List ℕ) (es : List Entry) → standing_of n (x ∷ es) ≡ None → (bytes_eq x.name n ≡ false) × (standing_of n es ≡ None)
none_here x n es h = by (bytes_eq x.name n) h
  where
    by : (b : Bool) → cond b (Some x.standing) (standing_of n es) ≡ None → (b ≡ false) × (standing_of n es ≡ None)
    by true k = some_none x.standing k
    by false k = (refl, k)

once_last : (es : List Entry) (e : Entry) → Once es → standing_of e.name es ≡ None → Once (es ++ e ∷ [])
once_last [] e o h = (refl, tt)
once_last (x ∷ es) e o h =
    let k = none_here x e.name es h in
    (behind es (e ∷ []) x.name o.0 ∙ ap (λ b. cond b (Some e.standing) None) (turned x.name e.name k.0), once_last es e o.1 k.1)

once_with : (e : Entry) (es : List Entry) → Once es → Once (with_entry e es)
once_with e es o = by (standing_of e.name es) refl
  where
    by : (s : Option Standing) → standing_of e.name es ≡ s → Once (cond (is_absent s) (es ++ e ∷ []) es)
    by None h = once_last es e o h
    by (Some s) h = o

pub once_entries : (xs es : List Entry) → Once es → Once (with_entries xs es)
once_entries [] es o = o
once_entries (x ∷ xs) es o = once_entries xs (with_entry x es) (once_with x es o)

pub once_apart : (es : List Entry) → Once es → Apart es
once_apart [] o = tt
once_apart (e ∷ es) o = (by e.standing, once_apart es o.1)
  where
    by : (st : Standing) → apart_from e.name st es
    by Subprogram = tt
    by (Stored s) = o.0
    by (TypeName T) = o.0
    by (Label T x) = o.0

-- ---- what is lost

-- behind these, each name is new or that of a subprogram
abbrev pub NewOrSubprograms : List Entry → List Entry → Type 0
NewOrSubprograms es [] = Unit {0}
NewOrSubprograms es (x ∷ xs) = ((standing_of x.name es ≡ None) ⊎ (x.standing ≡ Subprogram)) × NewOrSubprograms (with_entry x es) xs

-- what passes over subprograms is the same for the names that are kept as for all
module _ {ℓ} {A : Type ℓ} (f : List Entry → A) (after : Entry → A → A) (is : (e : Entry) (es : List Entry) → f (e ∷ es) ≡ after e (f es)) (passes : (e : Entry) (a : A) → e.standing ≡ Subprogram → after e a ≡ a) where
  without : (es : List Entry) (x : Entry) (xs : List Entry) → x.standing ≡ Subprogram → f (es ++ xs) ≡ f (es ++ x ∷ xs)
  without [] x xs h = sym (is x xs ∙ passes x (f xs) h)
  without (e ∷ es) x xs h = is e (es ++ xs) ∙ ap (after e) (without es x xs h) ∙ sym (is e (es ++ x ∷ xs))

  pub passed_over : (xs es : List Entry) → NewOrSubprograms es xs → f (with_entries xs es) ≡ f (es ++ xs)
  passed_over [] es s = ap f (sym (append-nil es))
  passed_over (x ∷ xs) es s = passed_over xs (with_entry x es) s.1 ∙ one (standing_of x.name es) s.0
    where
      one : (o : Option Standing) → (o ≡ None) ⊎ (x.standing ≡ Subprogram) → f (cond (is_absent o) (es ++ x ∷ []) es ++ xs) ≡ f (es ++ x ∷ xs)
      one None k = ap f (append_assoc es (x ∷ []) xs)
      one (Some st) (inl k) = absurd (some_none st k)
      one (Some st) (inr k) = without es x xs k
