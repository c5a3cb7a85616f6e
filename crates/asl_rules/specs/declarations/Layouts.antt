-- Where the visible names are held: those of bodies in the frame, and those outside among the globals, each in the order of the names.
use Rattle.std.specs.Prelude.{ℕ, suc, if◌then◌else◌, List, [], ◌∷◌, Option, Some, None, option_map}
use Rattle.std.specs.Str.{bytes_eq}
use Rattle.asl_rules.specs.declared.slot.Slot.{Slot}
use Rattle.asl_rules.specs.declared.slot.Slot.TheVariants.{Local, Global}
use Rattle.asl_rules.specs.declarations.Scopes.{Entry, Standing, Stored, Subprogram, TypeName, Label}

-- the names of the places in the frame and of those among the globals, in order
pub record Layout : Type 0 where
  pub locals : List (List ℕ)
  pub globals : List (List ℕ)

-- ---- the place of a name

-- the first place of a name among these
abbrev pub place_of : List ℕ → List (List ℕ) → Option ℕ
place_of name [] = None
place_of name (n ∷ ns) = if bytes_eq n name then Some 0 else option_map (λ i. suc i) (place_of name ns)

-- how many of these stand before a name
abbrev pub number_before : List ℕ → List (List ℕ) → ℕ
number_before name [] = 0
number_before name (n ∷ ns) = if bytes_eq n name then 0 else suc (number_before name ns)

abbrev pub slot_among : Option ℕ → List ℕ → List (List ℕ) → Slot
slot_among (Some i) name globals = Local i
slot_among None name globals = Global (number_before name globals)

-- the place of a name, in the frame or else among the globals
abbrev pub slot_of : List ℕ → Layout → Slot
slot_of name L = slot_among (place_of name L.locals) name L.globals

-- ---- the places of names in a scope

abbrev pub local_name : List ℕ → Standing → List (List ℕ) → List (List ℕ)
local_name name (Stored s) names = if s.is_global then names else name ∷ names
local_name name Subprogram names = names
local_name name (TypeName T) names = names
local_name name (Label T x) names = names

abbrev pub global_name : List ℕ → Standing → List (List ℕ) → List (List ℕ)
global_name name (Stored s) names = if s.is_global then name ∷ names else names
global_name name Subprogram names = names
global_name name (TypeName T) names = names
global_name name (Label T x) names = names

abbrev pub local_names : List Entry → List (List ℕ)
local_names [] = []
local_names (e ∷ es) = local_name e.name e.standing (local_names es)

abbrev pub global_names : List Entry → List (List ℕ)
global_names [] = []
global_names (e ∷ es) = global_name e.name e.standing (global_names es)

-- the names that stand for storage, in order
abbrev pub layout_of : List Entry → Layout
layout_of es = record { locals = local_names es; globals = global_names es }
