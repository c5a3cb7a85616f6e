-- Two lists of names with the same names in the same places, storage in the same places: what no use asks for, and what declarations in
-- bodies go on from.
use Rattle.std.proofs.Common.{◌≡◌, ℕ, suc, ◌+◌, Bool, true, false, cond, ◌&&◌, List, [], ◌∷◌, ◌++◌, Option, Some, None, refl, sym, ap, ◌∙◌}
use Rattle.std.proofs.Common.{arith}
use Rattle.std.specs.Str.{bytes_eq}
use Rattle.asl_rules.specs.types.Types.{Parts}
use Rattle.asl_rules.specs.declarations.Scopes.{Entry, Signature, Standing, Stored, Subprogram, TypeName, Label, standing_of, is_absent}
use Rattle.asl_rules.specs.declarations.Scopes.{is_free, is_local, next_atom, choose}
use Rattle.asl_rules.specs.declarations.Layouts.{Layout, slot_of, layout_of, local_name, global_name, local_names, global_names}
use Rattle.asl_rules.specs.declarations.UsedNames.{Use, Uses, of_value, of_subprogram, of_type, Each}
use Rattle.asl_laws.proofs.names.ByUses.{each_map}
use Rattle.asl_laws.proofs.names.SameExprs.{SameAt}
use Rattle.asl_laws.proofs.names.SameWidths.{SameInWidths}

-- names of bodies and of storage outside are held in the same places, the same names are taken, and the next name of a body has the same
-- atom
pub record SamePlaces (A B : List Entry) : Type 0 where
  pub layout : layout_of A ≡ layout_of B
  pub free : (name : List ℕ) → is_free name A ≡ is_free name B
  pub atom : next_atom A ≡ next_atom B

-- a name stands for the same, and calls of it choose the same
abbrev pub Stands : List Entry → List Entry → List Signature → List Signature → Use → Type 0
Stands A B ss rs (of_value span name) = standing_of name A ≡ standing_of name B
Stands A B ss rs (of_subprogram span name) = (standing_of name A ≡ standing_of name B) ×
    ((Ts : Parts) → choose name Ts ss ≡ choose name Ts rs)
Stands A B ss rs (of_type name) = standing_of name A ≡ standing_of name B

-- the same, where nothing is asked of what is called
abbrev pub Shows : List Entry → List Entry → Use → Type 0
Shows A B (of_value span name) = standing_of name A ≡ standing_of name B
Shows A B (of_subprogram span name) = Unit {0}
Shows A B (of_type name) = standing_of name A ≡ standing_of name B

-- ---- with more names behind both

abbrev or_else : {X : Type 0} → Option X → Option X → Option X
or_else None o = o
or_else (Some x) o = Some x

standing_behind : (name : List ℕ) (A es : List Entry) → standing_of name (A ++ es) ≡ or_else (standing_of name A) (standing_of name es)
standing_behind name [] es = refl
standing_behind name (a ∷ A) es = by (bytes_eq a.name name) (standing_behind name A es)
  where
    by : (b : Bool) → standing_of name (A ++ es) ≡ or_else (standing_of name A) (standing_of name es) →
        cond b (Some a.standing) (standing_of name (A ++ es))
        ≡ or_else (cond b (Some a.standing) (standing_of name A)) (standing_of name es)
    by true h = refl
    by false h = h

free_behind : (o p : Option Standing) → is_absent (or_else o p) ≡ is_absent o && is_absent p
free_behind None p = refl
free_behind (Some x) p = refl

local_behind : (name : List ℕ) (s : Standing) (ns ms : List (List ℕ)) → local_name name s (ns ++ ms) ≡ local_name name s ns ++ ms
local_behind name (Stored s) ns ms = by s.is_global
  where
    by : (b : Bool) → cond b (ns ++ ms) (name ∷ (ns ++ ms)) ≡ cond b ns (name ∷ ns) ++ ms
    by true = refl
    by false = refl
local_behind name Subprogram ns ms = refl
local_behind name (TypeName T) ns ms = refl
local_behind name (Label T x) ns ms = refl

global_behind : (name : List ℕ) (s : Standing) (ns ms : List (List ℕ)) → global_name name s (ns ++ ms) ≡ global_name name s ns ++ ms
global_behind name (Stored s) ns ms = by s.is_global
  where
    by : (b : Bool) → cond b (name ∷ (ns ++ ms)) (ns ++ ms) ≡ cond b (name ∷ ns) ns ++ ms
    by true = refl
    by false = refl
global_behind name Subprogram ns ms = refl
global_behind name (TypeName T) ns ms = refl
global_behind name (Label T x) ns ms = refl

locals_behind : (A es : List Entry) → local_names (A ++ es) ≡ local_names A ++ local_names es
locals_behind [] es = refl
locals_behind (a ∷ A) es = ap (local_name a.name a.standing) (locals_behind A es)
    ∙ local_behind a.name a.standing (local_names A) (local_names es)

globals_behind : (A es : List Entry) → global_names (A ++ es) ≡ global_names A ++ global_names es
globals_behind [] es = refl
globals_behind (a ∷ A) es = ap (global_name a.name a.standing) (globals_behind A es)
    ∙ global_behind a.name a.standing (global_names A) (global_names es)

abbrev more : Layout → List Entry → Layout
more L es = record { locals = L.locals ++ local_names es; globals = L.globals ++ global_names es }

layout_behind : (A es : List Entry) → layout_of (A ++ es) ≡ more (layout_of A) es
layout_behind A es = λ i. record { locals = locals_behind A es i; globals = globals_behind A es i }

atoms_behind : (A es : List Entry) → next_atom (A ++ es) ≡ next_atom A + next_atom es
atoms_behind [] es = omega arith
atoms_behind (a ∷ A) es = by (is_local a.standing) (atoms_behind A es)
  where
    by : (b : Bool) → next_atom (A ++ es) ≡ next_atom A + next_atom es →
        cond b (suc (suc (next_atom (A ++ es)))) (next_atom (A ++ es)) ≡ cond b (suc (suc (next_atom A))) (next_atom A) + next_atom es
    by true h = omega arith
    by false h = h

module _ (A B : List Entry) (p : SamePlaces A B) where
  pub same_free : (es : List Entry) (name : List ℕ) → is_free name (A ++ es) ≡ is_free name (B ++ es)
  same_free es name =
      ap (λ o. is_absent o) (standing_behind name A es) ∙ free_behind (standing_of name A) (standing_of name es)
      ∙ ap (λ b. b && is_absent (standing_of name es)) (p.free name)
      ∙ sym (ap (λ o. is_absent o) (standing_behind name B es) ∙ free_behind (standing_of name B) (standing_of name es))

  pub same_atom : (es : List Entry) → next_atom (A ++ es) ≡ next_atom (B ++ es)
  same_atom es = atoms_behind A es ∙ ap (λ n. n + next_atom es) p.atom ∙ sym (atoms_behind B es)

  pub same_layout : (es : List Entry) → layout_of (A ++ es) ≡ layout_of (B ++ es)
  same_layout es = layout_behind A es ∙ ap (λ L. more L es) p.layout ∙ sym (layout_behind B es)

  pub same_standing : (es : List Entry) (name : List ℕ) → standing_of name A ≡ standing_of name B →
      standing_of name (A ++ es) ≡ standing_of name (B ++ es)
  same_standing es name h = standing_behind name A es ∙ ap (λ o. or_else o (standing_of name es)) h ∙ sym (standing_behind name B es)

  -- what is used stands for the same, with more names behind both
  use_behind : (ss rs : List Signature) (es : List Entry) (u : Use) → Stands A B ss rs u → SameAt (A ++ es) (B ++ es) ss rs u
  use_behind ss rs es (of_value span name) h = (same_standing es name h, ap (slot_of name) (same_layout es))
  use_behind ss rs es (of_subprogram span name) h = (same_standing es name h.0, h.1)
  use_behind ss rs es (of_type name) h = same_standing es name h

  pub uses_behind : (ss rs : List Signature) (es : List Entry) (us : Uses) → Each (Stands A B ss rs) us →
      Each (SameAt (A ++ es) (B ++ es) ss rs) us
  uses_behind ss rs es = each_map (Stands A B ss rs) (SameAt (A ++ es) (B ++ es) ss rs) (use_behind ss rs es)

  width_behind : (es : List Entry) (u : Use) → Shows A B u → SameInWidths (A ++ es) (B ++ es) u
  width_behind es (of_value span name) h = (same_standing es name h, ap (slot_of name) (same_layout es))
  width_behind es (of_subprogram span name) h = tt
  width_behind es (of_type name) h = same_standing es name h

  pub widths_behind : (es : List Entry) (us : Uses) → Each (Shows A B) us → Each (SameInWidths (A ++ es) (B ++ es)) us
  widths_behind es = each_map (Shows A B) (SameInWidths (A ++ es) (B ++ es)) (width_behind es)
