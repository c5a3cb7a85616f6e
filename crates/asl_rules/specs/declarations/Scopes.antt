-- Scopes: the visible names and what they stand for.
use Rattle.std.specs.Prelude.{ℕ, zero, suc, ℤ, Bool, true, false, ◌&&◌, not, if◌then◌else◌, List, [], ◌∷◌, ◌++◌, Option, Some, None}
use Rattle.std.specs.Str.{bytes_eq}
use Rattle.asl_poly.specs.Terms.{Polynomial}
use Rattle.asl_poly.specs.Poly.{atom_map}
use Rattle.asl_rules.specs.declared.effect.Effect.{Effect}
use Rattle.asl_rules.specs.declared.effect.Effect.TheVariants.{Pure, Readonly, Writes}
use Rattle.asl_rules.specs.types.Types.{Ty, Parts, same_kinds}
use Rattle.asl_rules.specs.values.Values.{Value}

-- what a name of a body counts as in widths: a polynomial over the atoms, and whether the text that it stands for names an atom
pub record Counted : Type 0 where
  pub poly : Polynomial
  pub has_atom : Bool

-- a name stands for itself by its atom
abbrev pub atom_at : ℕ → Counted
atom_at n = record { poly = atom_map n; has_atom = true }

-- storage: its type, whether it is global, whether it can be assigned, the value that global storage begins with, and what an immutable integer of a
-- body counts as
pub record Storage : Type 0 where
  pub ty : Ty
  pub is_global : Bool
  pub is_mutable : Bool
  pub initial : Option Value
  pub counted : Option Counted

-- what a name stands for: storage, a subprogram, a type, or a label of an enumeration
pub data Standing : Type 0 where
  Stored : Storage → Standing
  Subprogram : Standing
  TypeName : Ty → Standing
  Label : Ty → Value → Standing

pub record Entry : Type 0 where
  pub name : List ℕ
  pub standing : Standing

-- storage of a body that can be assigned
abbrev pub variable : List ℕ → Ty → Entry
variable name T = record { name = name; standing = Stored (record { ty = T; is_global = false; is_mutable = true; initial = None; counted = None }) }

-- storage of a body that can't
abbrev pub fixed : List ℕ → Ty → Option Counted → Entry
fixed name T counted = record { name = name; standing = Stored (record { ty = T; is_global = false; is_mutable = false; initial = None; counted = counted }) }

-- storage outside bodies
abbrev pub global : List ℕ → Ty → Bool → Value → Entry
global name T is_mutable x = record { name = name; standing = Stored (record { ty = T; is_global = true; is_mutable = is_mutable; initial = Some x; counted = None }) }

abbrev pub subprogram : List ℕ → Entry
subprogram name = record { name = name; standing = Subprogram }

abbrev pub type_name : List ℕ → Ty → Entry
type_name name T = record { name = name; standing = TypeName T }

abbrev pub label_name : List ℕ → Ty → Value → Entry
label_name name T x = record { name = name; standing = Label T x }

abbrev pub entry_names : List Entry → List (List ℕ)
entry_names [] = []
entry_names (e ∷ es) = e.name ∷ entry_names es

-- ---- atoms

-- the name is that of storage of a body
abbrev pub is_local : Standing → Bool
is_local (Stored s) = not s.is_global
is_local Subprogram = false
is_local (TypeName T) = false
is_local (Label T x) = false

-- the atom of the next name of a body: those of the names of bodies are the even numbers in order, from 0; the odd ones are kept for names outside
abbrev pub next_atom : List Entry → ℕ
next_atom [] = 0
next_atom (e ∷ es) = if is_local e.standing then suc (suc (next_atom es)) else next_atom es

abbrev pub name_or_later : List ℕ → ℕ → (ℕ → List ℕ) → List ℕ
name_or_later name zero later = name
name_or_later name (suc zero) later = []
name_or_later name (suc (suc n)) later = later n

-- the name of a body with this atom
abbrev pub name_at : List Entry → ℕ → List ℕ
name_at [] n = []
name_at (e ∷ es) n = if is_local e.standing then name_or_later e.name n (name_at es) else name_at es n

-- ---- names

-- what a name stands for, where it is visible
abbrev pub standing_of : List ℕ → List Entry → Option Standing
standing_of name [] = None
standing_of name (e ∷ es) = if bytes_eq e.name name then Some e.standing else standing_of name es

abbrev pub storage_in : Option Standing → Option Storage
storage_in (Some (Stored s)) = Some s
storage_in o = None

abbrev pub storage_of : List ℕ → List Entry → Option Storage
storage_of name es = storage_in (standing_of name es)

abbrev pub type_in : Option Standing → Option Ty
type_in (Some (TypeName T)) = Some T
type_in o = None

-- the type of a declared name
abbrev pub type_of_name : List ℕ → List Entry → Option Ty
type_of_name name es = type_in (standing_of name es)

abbrev pub is_subprogram : Option Standing → Bool
is_subprogram (Some Subprogram) = true
is_subprogram o = false

abbrev pub is_absent : {A : Type 0} → Option A → Bool
is_absent None = true
is_absent (Some x) = false

-- the name isn't visible yet
abbrev pub is_free : List ℕ → List Entry → Bool
is_free name es = is_absent (standing_of name es)

-- the names with one more, where it isn't visible yet
abbrev pub with_entry : Entry → List Entry → List Entry
with_entry e es = if is_free e.name es then es ++ e ∷ [] else es

-- and with several, in order: of those that share a name, the first alone
abbrev pub with_entries : List Entry → List Entry → List Entry
with_entries [] names = names
with_entries (e ∷ es) names = with_entries es (with_entry e names)

-- ---- subprograms

-- a parameter: the atom of its name, and its type where one is written
pub record Param : Type 0 where
  pub atom : ℕ
  pub ty : Option Ty

-- what calls need of a subprogram; it is a procedure where it has no result
pub record Signature : Type 0 where
  pub name : List ℕ
  pub class : Effect
  pub params : List Param
  pub formals : Parts
  pub result : Option Ty
  pub limit : ℤ

-- a subprogram with its number in source order
pub record Chosen : Type 0 where
  pub number : ℕ
  pub signature : Signature

-- the overload of this name whose formals are of the kinds of these types of arguments, where the first has this number
abbrev pub choose_from : ℕ → List ℕ → Parts → List Signature → Option Chosen
choose_from n name Ts [] = None
choose_from n name Ts (f ∷ fs) =
    if bytes_eq f.name name && same_kinds f.formals Ts then Some (record { number = n; signature = f }) else choose_from (suc n) name Ts fs

abbrev pub choose : List ℕ → Parts → List Signature → Option Chosen
choose name Ts fs = choose_from 0 name Ts fs

-- ---- what an expression or a statement is judged in

-- what an expression is judged in: the visible names, the oldest first, the subprograms of the program, and the greatest effect that is allowed
pub record Scope : Type 0 where
  pub names : List Entry
  pub subs : List Signature
  pub class : Effect

abbrev pub with_names : Scope → List Entry → Scope
with_names G names = record G { names = names }

abbrev pub with_class : Scope → Effect → Scope
with_class G class = record G { class = class }

-- what a statement is judged in: what its expressions are, the result type of the body, none in a procedure, and whether an exception is being handled
pub record Body : Type 0 where
  pub scope : Scope
  pub result : Option Ty
  pub handles : Bool

abbrev pub body_names : Body → List Entry → Body
body_names B names = record B { scope = with_names B.scope names }

abbrev pub handling : Body → Body
handling B = record B { handles = true }

-- reading a global that can be assigned
abbrev pub reading : Storage → Effect
reading s = if s.is_global then (if s.is_mutable then Readonly else Pure) else Pure

-- assigning a global
abbrev pub writing : Storage → Effect
writing s = if s.is_global then Writes else Pure

-- the value of a constant and of a global `let`, which is known before any run
abbrev pub known_value : Storage → Option Value
known_value s = if s.is_mutable then None else s.initial
