-- The names that are visible outside bodies: what they stand for is well formed, and no two clash.
use Rattle.std.proofs.Common.{◌≡◌, ℕ, Bool, true, false, cond, List, [], ◌∷◌, ◌++◌, Option, Some, None, refl, sym, ap, ◌∙◌, subst}
use Rattle.std.specs.Str.{bytes_eq}
use Rattle.asl_rules.specs.types.Types.{Ty, Fields, no_field, field}
use Rattle.asl_rules.specs.values.Members.{fields_of}
use Rattle.asl_rules.specs.values.Values.{Value}
use Rattle.asl_rules.specs.declarations.Scopes.{Counted, Entry, Standing, Stored, Subprogram, TypeName, Label, standing_of, type_in, type_of_name}
use Rattle.asl_rules.specs.private.WellFormed.{WellFormed, Fixed, WellDeclared}
use Rattle.asl_rules.specs.types.Closed.{Assignment}
use Rattle.asl_rules.specs.private.Belonging.{InType}
use Rattle.asl_rules.specs.private.Worth.{IsHeld}
use Rattle.asl_rules.specs.private.Agreement.{types_in, CountsAs, FrameMatches, local_matches, Agrees}
use Rattle.asl_rules.specs.runs.States.{Binding, Core}
use Rattle.asl_rules.proofs.basics.Tests.{some_same, none_some}
use Rattle.asl_rules.proofs.scopes.Lookups.{Apart, behind, before_is}
use Rattle.asl_rules.proofs.scopes.Slots.{AllOutside}
use Rattle.asl_rules.specs.values.Members.{numbered}

-- each field stands once
abbrev pub FieldsOnce : Fields → Type 0
FieldsOnce no_field = Unit {0}
FieldsOnce (field f T fs) = (numbered f fs ≡ None) × FieldsOnce fs

abbrev pub OnceIn : Option Fields → Type 0
OnceIn None = Unit {0}
OnceIn (Some fs) = FieldsOnce fs

-- what a name stands for is well formed, and counts as a width within the limits
abbrev pub GoodStanding : (List ℕ → Option Ty) → Standing → Type 0
GoodStanding d (Stored s) = WellFormed d s.ty × IsHeld s.counted
GoodStanding d Subprogram = Unit {0}
GoodStanding d (TypeName T) = WellFormed d T × OnceIn (fields_of T) × Fixed T
GoodStanding d (Label T x) = WellFormed d T × ((a : Assignment) → InType d a x T)

abbrev pub GoodNames : (List ℕ → Option Ty) → List Entry → Type 0
GoodNames d names = (name : List ℕ) (st : Standing) → standing_of name names ≡ Some st → GoodStanding d st

type_by : (d : List ℕ → Option Ty) (o : Option Standing) (T : Ty) → ((st : Standing) → o ≡ Some st → GoodStanding d st) → type_in o ≡ Some T → GoodStanding d (TypeName T)
type_by d (Some (TypeName U)) T g h = subst (λ V. GoodStanding d (TypeName V)) (some_same U T h) (g (TypeName U) refl)
type_by d (Some (Stored s)) T g h = none_some T h
type_by d (Some Subprogram) T g h = none_some T h
type_by d (Some (Label U x)) T g h = none_some T h
type_by d None T g h = none_some T h

pub type_formed : (d : List ℕ → Option Ty) (names : List Entry) (name : List ℕ) → GoodNames d names → (T : Ty) → type_of_name name names ≡ Some T → WellFormed d T
type_formed d names name g T h = (type_by d (standing_of name names) T (g name) h).0

pub type_fixed : (d : List ℕ → Option Ty) (names : List Entry) (name : List ℕ) → GoodNames d names → (T : Ty) → type_of_name name names ≡ Some T → Fixed T
type_fixed d names name g T h = (type_by d (standing_of name names) T (g name) h).2

pub fields_once : (d : List ℕ → Option Ty) (names : List Entry) (name : List ℕ) → GoodNames d names → (T : Ty) → type_of_name name names ≡ Some T → OnceIn (fields_of T)
fields_once d names name g T h = (type_by d (standing_of name names) T (g name) h).1

-- the names outside the bodies of a program
pub record WellNamed (base : List Entry) : Type 0 where
  pub good : GoodNames (types_in base) base
  pub apart : Apart base
  pub outside : AllOutside base

pub well_declared : (base : List Entry) → WellNamed base → WellDeclared (types_in base)
well_declared base w = record { each = λ name T h. type_formed (types_in base) base name w.good T h; fixed = λ name T h. type_fixed (types_in base) base name w.good T h }

-- ---- in a scope

good_first : (d : List ℕ → Option Ty) (m : Bool) (own st : Standing) (o : Option Standing) → GoodStanding d own → cond m (Some own) o ≡ Some st → (o ≡ Some st → GoodStanding d st) → GoodStanding d st
good_first d true own st o g h next = subst (GoodStanding d) (some_same own st h) g
good_first d false own st o g h next = next h

held_count : (av : Assignment) (o : Option Counted) (x : Value) → CountsAs av o x → IsHeld o
held_count av None x h = tt
held_count av (Some c) x h = h.2

local_good : (av : Assignment) (d : List ℕ → Option Ty) (n : List ℕ) (st : Standing) (b : Binding) → local_matches d av n st b → GoodStanding d st
local_good av d n (Stored s) b m = (m.well_formed, held_count av s.counted b.value m.counts)
local_good av d n Subprogram b m = absurd m
local_good av d n (TypeName T) b m = absurd m
local_good av d n (Label T x) b m = absurd m

locals_good : (av : Assignment) (d : List ℕ → Option Ty) (es : List Entry) (bs : List Binding) → FrameMatches d av es bs → GoodNames d es
locals_good av d [] bs m name st h = none_some st h
locals_good av d (e ∷ es) [] m name st h = absurd m
locals_good av d (e ∷ es) (b ∷ bs) m name st h = good_first d (bytes_eq e.name name) e.standing st (standing_of name es) (local_good av d e.name e.standing b m.0) h (locals_good av d es bs m.1 name st)

either_good : (d : List ℕ → Option Ty) (base locals : List Entry) (name : List ℕ) (st : Standing) (o : Option Standing) → standing_of name base ≡ o → GoodNames d base → GoodNames d locals → standing_of name (base ++ locals) ≡ Some st → GoodStanding d st
either_good d base locals name st None q g k h = k name st (sym (behind base locals name q) ∙ h)
either_good d base locals name st (Some own) q g k h = g name st (q ∙ sym (before_is base locals name own q) ∙ h)

pub scope_good : (av : Assignment) (base names : List Entry) (c : Core) → WellNamed base → Agrees base names av c → GoodNames (types_in base) names
scope_good av base names c w a name st h =
    either_good (types_in base) base a.locals name st (standing_of name base) refl w.good (locals_good av (types_in base) a.locals c.frame a.frame) (ap (standing_of name) (sym a.names_are) ∙ h)
