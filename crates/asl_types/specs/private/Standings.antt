-- What names stand for, in the rules and in code.
use Rattle.std.specs.Prelude.{◌≡◌, ℕ, suc, Bool, true, false, if◌then◌else◌, List, [], ◌∷◌, Option, None, Some, map}
use Rattle.std.specs.Option.{option_map}
use Rattle.std.specs.Borrow.{Bor}
use Rattle.std.specs.Str.{bytes_eq}
use Rattle.std.specs.List.{IsDistinct}
use Rattle.std.specs.Map.{keys_of}
use Rattle.asl_value.specs.declared.value.Value.{Value}
use Rattle.asl_value.specs.View.{value_of}
use Rattle.asl_rules.specs.declared.slot.Slot.{Slot}
use Rattle.asl_rules.specs.declared.slot.Slot.TheVariants as slot
use Rattle.asl_types.specs.declared.scope.Storage.{Storage}
use Rattle.asl_types.specs.declared.scope.Standing.{Standing}
use Rattle.asl_types.specs.declared.scope.Standing.TheVariants.{Stored, Subprogram, TypeName, Label}
use Rattle.asl_types.specs.declared.scope.Form.{Form}
use Rattle.asl_types.specs.declared.scope.Form.TheVariants as form
use Rattle.asl_types.specs.declared.scope.Declared.{Declared}
use Rattle.asl_rules.specs.values.Values as values
use Rattle.asl_rules.specs.declarations.Scopes as rules

-- ---- views

abbrev pub is_global : Slot → Bool
is_global (slot.Local n) = false
is_global (slot.Global n) = true

-- a value behind a reference, where there is one
abbrev pub value_behind : Option (Bor Value) → Option values.Value
value_behind o = option_map (λ x. value_of x.now) o

abbrev pub storage_view : Storage → rules.Storage
storage_view s = record { ty = s.ty.now; is_global = is_global s.slot; is_mutable = s.is_mutable; initial = value_behind s.initial; counted = option_map (λ c. c.now) s.counted }

abbrev pub standing_view : Standing → rules.Standing
standing_view (Stored s) = rules.Stored (storage_view s)
standing_view Subprogram = rules.Subprogram
standing_view (TypeName T) = rules.TypeName T.now
standing_view (Label T x) = rules.Label T.now (value_of x.now)

-- what stands in the names for a name that is declared so
abbrev pub form_view : Form → rules.Standing
form_view (form.Local T m c) = rules.Stored (record { ty = T; is_global = false; is_mutable = m; initial = None; counted = c })
form_view (form.Global T m x) = rules.Stored (record { ty = T; is_global = true; is_mutable = m; initial = Some (value_of x); counted = None })
form_view form.Subprogram = rules.Subprogram
form_view (form.TypeName T) = rules.TypeName T
form_view (form.Label T x) = rules.Label T (value_of x)

abbrev pub entry_view : List ℕ → Form → rules.Entry
entry_view name f = record { name = name; standing = form_view f }

-- ---- names that are settled

-- storage outside bodies
abbrev pub is_outside : Option rules.Standing → Bool
is_outside (Some (rules.Stored s)) = s.is_global
is_outside (Some rules.Subprogram) = false
is_outside (Some (rules.TypeName T)) = false
is_outside (Some (rules.Label T x)) = false
is_outside None = false

-- whether what a name stands for is storage, and whether that is outside bodies
abbrev pub storage_sort : rules.Standing → Option Bool
storage_sort (rules.Stored s) = Some s.is_global
storage_sort rules.Subprogram = None
storage_sort (rules.TypeName T) = None
storage_sort (rules.Label T x) = None

-- the names, of which the first of this name stands for this
abbrev pub settled : List ℕ → rules.Standing → List rules.Entry → List rules.Entry
settled name s [] = []
settled name s (e ∷ es) = if bytes_eq e.name name then record { name = e.name; standing = s } ∷ es else e ∷ settled name s es

-- ---- the map of the names

-- the visible names that the map holds
abbrev pub entries_of : List (Bor (List ℕ) × Declared) → List rules.Entry
entries_of es = map (λ e. entry_view e.0.now e.1.form) es

-- where storage is held that is declared so behind so many of local and of global storage
abbrev pub slot_by : Form → ℕ → ℕ → Slot
slot_by (form.Local T m c) l g = slot.Local l
slot_by f l g = slot.Global g

-- storage is held in this slot
abbrev pub HasSlot : Standing → Slot → Type 0
HasSlot (Stored s) at = s.slot ≡ at
HasSlot s at = Unit {0}

-- the numbers after one more name
abbrev pub more_locals : Form → ℕ → ℕ
more_locals (form.Local T m c) l = suc l
more_locals f l = l

abbrev pub more_globals : Form → ℕ → ℕ
more_globals (form.Global T m x) g = suc g
more_globals f g = g

-- each name has the numbers of what is before it, where so many are before the first
abbrev pub Numbered : ℕ → ℕ → List (Bor (List ℕ) × Declared) → Type 0
Numbered l g [] = Unit {0}
Numbered l g (e ∷ es) = (e.1.before.locals ≡ l) × (e.1.before.globals ≡ g) × Numbered (more_locals e.1.form l) (more_globals e.1.form g) es

abbrev pub same_name : Bor (List ℕ) → Bor (List ℕ) → Bool
same_name x y = bytes_eq x.now y.now

-- what is known of the map: each name stands in it once, with its numbers
pub record IsKept (es : List (Bor (List ℕ) × Declared)) : Type 0 where
  pub numbered : Numbered 0 0 es
  pub distinct : IsDistinct same_name (keys_of es)
