-- Two lists of names that differ in what names stand for alone: the same names in the same places, storage in the same places, and at some
-- names the same standing. So what uses these names alone is judged alike with both, and no order need be known in which they were made.
use Rattle.std.proofs.Common.{◌≡◌, ℕ, suc, Bool, true, false, cond, not, ◌&&◌, List, [], ◌∷◌, ◌++◌, Option, Some, None, refl, sym, ap, ◌∙◌}
use Rattle.std.proofs.Common.{subst}
use Rattle.std.specs.Str.{bytes_eq}
use Rattle.asl_rules.specs.types.Types.{Parts, same_kinds}
use Rattle.asl_rules.specs.declarations.Scopes.{Entry, Signature, Chosen, Standing, Stored, Subprogram, TypeName, Label, standing_of}
use Rattle.asl_rules.specs.declarations.Scopes.{is_absent, is_free, is_local, next_atom, with_entry, with_entries, choose_from}
use Rattle.asl_rules.specs.declarations.Layouts.{local_name, global_name, local_names, global_names}
use Rattle.asl_laws.proofs.names.SamePlaces.{SamePlaces}

-- storage of a body, storage outside, or neither
abbrev pub kind_of : Standing → Option Bool
kind_of (Stored s) = Some s.is_global
kind_of Subprogram = None
kind_of (TypeName T) = None
kind_of (Label T x) = None

abbrev local_by : Option Bool → List ℕ → List (List ℕ) → List (List ℕ)
local_by None name ns = ns
local_by (Some is_global) name ns = cond is_global ns (name ∷ ns)

abbrev global_by : Option Bool → List ℕ → List (List ℕ) → List (List ℕ)
global_by None name ns = ns
global_by (Some is_global) name ns = cond is_global (name ∷ ns) ns

abbrev is_local_by : Option Bool → Bool
is_local_by None = false
is_local_by (Some is_global) = not is_global

local_kind : (name : List ℕ) (s : Standing) (ns : List (List ℕ)) → local_name name s ns ≡ local_by (kind_of s) name ns
local_kind name (Stored s) ns = refl
local_kind name Subprogram ns = refl
local_kind name (TypeName T) ns = refl
local_kind name (Label T x) ns = refl

global_kind : (name : List ℕ) (s : Standing) (ns : List (List ℕ)) → global_name name s ns ≡ global_by (kind_of s) name ns
global_kind name (Stored s) ns = refl
global_kind name Subprogram ns = refl
global_kind name (TypeName T) ns = refl
global_kind name (Label T x) ns = refl

is_local_kind : (s : Standing) → is_local s ≡ is_local_by (kind_of s)
is_local_kind (Stored s) = refl
is_local_kind Subprogram = refl
is_local_kind (TypeName T) = refl
is_local_kind (Label T x) = refl

module _ (Fixed : List ℕ → Type 0) where
  pub record Twin (e f : Entry) : Type 0 where
    pub name : e.name ≡ f.name
    pub kind : kind_of e.standing ≡ kind_of f.standing
    pub same : (n : List ℕ) → Fixed n → bytes_eq e.name n ≡ true → e.standing ≡ f.standing

  abbrev pub Twins : List Entry → List Entry → Type 0
  Twins [] [] = Unit {0}
  Twins [] (f ∷ fs) = ⊥
  Twins (e ∷ es) [] = ⊥
  Twins (e ∷ es) (f ∷ fs) = Twin e f × Twins es fs

  pub twins_self : (es : List Entry) → Twins es es
  twins_self [] = tt
  twins_self (e ∷ es) = (record { name = refl; kind = refl; same = λ n h k. refl }, twins_self es)

  pub twins_append : (es fs gs hs : List Entry) → Twins es fs → Twins gs hs → Twins (es ++ gs) (fs ++ hs)
  twins_append [] [] gs hs p q = q
  twins_append [] (f ∷ fs) gs hs p q = absurd p
  twins_append (e ∷ es) [] gs hs p q = absurd p
  twins_append (e ∷ es) (f ∷ fs) gs hs p q = (p.0, twins_append es fs gs hs p.1 q)

  pub twins_free : (n : List ℕ) (es fs : List Entry) → Twins es fs → is_free n es ≡ is_free n fs
  twins_free n [] [] p = refl
  twins_free n [] (f ∷ fs) p = absurd p
  twins_free n (e ∷ es) [] p = absurd p
  twins_free n (e ∷ es) (f ∷ fs) p = by (bytes_eq e.name n) (twins_free n es fs p.1)
      ∙ ap (λ m. is_absent (cond (bytes_eq m n) (Some f.standing) (standing_of n fs))) p.0.name
    where
      by : (b : Bool) → is_free n es ≡ is_free n fs →
          is_absent (cond b (Some e.standing) (standing_of n es)) ≡ is_absent (cond b (Some f.standing) (standing_of n fs))
      by true h = refl
      by false h = h

  pub twins_standing : (n : List ℕ) → Fixed n → (es fs : List Entry) → Twins es fs → standing_of n es ≡ standing_of n fs
  twins_standing n k [] [] p = refl
  twins_standing n k [] (f ∷ fs) p = absurd p
  twins_standing n k (e ∷ es) [] p = absurd p
  twins_standing n k (e ∷ es) (f ∷ fs) p = by (bytes_eq e.name n) refl (twins_standing n k es fs p.1)
      ∙ ap (λ m. cond (bytes_eq m n) (Some f.standing) (standing_of n fs)) p.0.name
    where
      by : (b : Bool) → bytes_eq e.name n ≡ b → standing_of n es ≡ standing_of n fs →
          cond b (Some e.standing) (standing_of n es) ≡ cond b (Some f.standing) (standing_of n fs)
      by true q h = ap Some (p.0.same n k q)
      by false q h = h

  twins_locals : (es fs : List Entry) → Twins es fs → local_names es ≡ local_names fs
  twins_locals [] [] p = refl
  twins_locals [] (f ∷ fs) p = absurd p
  twins_locals (e ∷ es) [] p = absurd p
  twins_locals (e ∷ es) (f ∷ fs) p =
      local_kind e.name e.standing (local_names es) ∙ (λ i. local_by (p.0.kind i) (p.0.name i) (twins_locals es fs p.1 i))
      ∙ sym (local_kind f.name f.standing (local_names fs))

  twins_globals : (es fs : List Entry) → Twins es fs → global_names es ≡ global_names fs
  twins_globals [] [] p = refl
  twins_globals [] (f ∷ fs) p = absurd p
  twins_globals (e ∷ es) [] p = absurd p
  twins_globals (e ∷ es) (f ∷ fs) p =
      global_kind e.name e.standing (global_names es) ∙ (λ i. global_by (p.0.kind i) (p.0.name i) (twins_globals es fs p.1 i))
      ∙ sym (global_kind f.name f.standing (global_names fs))

  twins_atoms : (es fs : List Entry) → Twins es fs → next_atom es ≡ next_atom fs
  twins_atoms [] [] p = refl
  twins_atoms [] (f ∷ fs) p = absurd p
  twins_atoms (e ∷ es) [] p = absurd p
  twins_atoms (e ∷ es) (f ∷ fs) p = λ i. cond ((is_local_kind e.standing ∙ ap is_local_by p.0.kind ∙ sym (is_local_kind f.standing)) i)
      (suc (suc (twins_atoms es fs p.1 i))) (twins_atoms es fs p.1 i)

  pub twins_places : (es fs : List Entry) → Twins es fs → SamePlaces es fs
  twins_places es fs p = record {
    layout = λ i. record { locals = twins_locals es fs p i; globals = twins_globals es fs p i };
    free = λ n. twins_free n es fs p;
    atom = twins_atoms es fs p;
  }

  -- each name once
  twins_with : (e f : Entry) (es fs : List Entry) → Twin e f → Twins es fs → Twins (with_entry e es) (with_entry f fs)
  twins_with e f es fs p q = subst (λ b. Twins (with_entry e es) (cond b (fs ++ f ∷ []) fs))
      (twins_free e.name es fs q ∙ ap (λ m. is_free m fs) p.name) (by (is_free e.name es))
    where
      by : (b : Bool) → Twins (cond b (es ++ e ∷ []) es) (cond b (fs ++ f ∷ []) fs)
      by true = twins_append es fs (e ∷ []) (f ∷ []) q (p, tt)
      by false = q

  pub twins_once : (es fs gs hs : List Entry) → Twins es fs → Twins gs hs → Twins (with_entries es gs) (with_entries fs hs)
  twins_once [] [] gs hs p q = q
  twins_once [] (f ∷ fs) gs hs p q = absurd p
  twins_once (e ∷ es) [] gs hs p q = absurd p
  twins_once (e ∷ es) (f ∷ fs) gs hs p q = twins_once es fs (with_entry e gs) (with_entry f hs) p.1 (twins_with e f gs hs p.0 q)

-- ---- signatures

-- the same names in the same places, and the same signatures under this name
pub record SigTwin (n : List ℕ) (s r : Signature) : Type 0 where
  pub name : bytes_eq s.name n ≡ bytes_eq r.name n
  pub same : bytes_eq s.name n ≡ true → s ≡ r

abbrev pub SigTwins : List ℕ → List Signature → List Signature → Type 0
SigTwins n [] [] = Unit {0}
SigTwins n [] (r ∷ rs) = ⊥
SigTwins n (s ∷ ss) [] = ⊥
SigTwins n (s ∷ ss) (r ∷ rs) = SigTwin n s r × SigTwins n ss rs

pub sigs_append : (n : List ℕ) (ss rs us vs : List Signature) → SigTwins n ss rs → SigTwins n us vs → SigTwins n (ss ++ us) (rs ++ vs)
sigs_append n [] [] us vs p q = q
sigs_append n [] (r ∷ rs) us vs p q = absurd p
sigs_append n (s ∷ ss) [] us vs p q = absurd p
sigs_append n (s ∷ ss) (r ∷ rs) us vs p q = (p.0, sigs_append n ss rs us vs p.1 q)

pub sigs_choose : (n : List ℕ) (Ts : Parts) (m : ℕ) (ss rs : List Signature) → SigTwins n ss rs →
    choose_from m n Ts ss ≡ choose_from m n Ts rs
sigs_choose n Ts m [] [] p = refl
sigs_choose n Ts m [] (r ∷ rs) p = absurd p
sigs_choose n Ts m (s ∷ ss) [] p = absurd p
sigs_choose n Ts m (s ∷ ss) (r ∷ rs) p = by (bytes_eq s.name n) refl (sigs_choose n Ts (suc m) ss rs p.1)
    ∙ ap (λ b. cond (b && same_kinds r.formals Ts) (Some (chosen m r)) (choose_from (suc m) n Ts rs)) p.0.name
  where
    chosen : ℕ → Signature → Chosen
    chosen m s = record { number = m; signature = s }

    by : (b : Bool) → bytes_eq s.name n ≡ b → choose_from (suc m) n Ts ss ≡ choose_from (suc m) n Ts rs →
        cond (b && same_kinds s.formals Ts) (Some (chosen m s)) (choose_from (suc m) n Ts ss)
        ≡ cond (b && same_kinds r.formals Ts) (Some (chosen m r)) (choose_from (suc m) n Ts rs)
    by true q h = λ i. cond (same_kinds (p.0.same q i).formals Ts) (Some (chosen m (p.0.same q i))) (h i)
    by false q h = h
