-- What declarations bring, in the rules and in code.
use Rattle.std.specs.Prelude.{ℕ, List, [], ◌∷◌, map}
use Rattle.asl_syn.specs.declared.tree.Ident.{Ident}
use Rattle.asl_value.specs.View.{value_of}
use Rattle.asl_rules.specs.types.Types.{Ty}
use Rattle.asl_rules.specs.values.Values.{label}
use Rattle.asl_rules.specs.declarations.Scopes.{Entry, global, subprogram, type_name, label_name}
use Rattle.asl_rules.specs.declarations.Declarations as rules
use Rattle.asl_judge.specs.declared.storage.Initial.{Initial}
use Rattle.asl_judge.specs.declared.judging.Brought.{Brought}
use Rattle.asl_judge.specs.declared.judging.Brought.TheVariants as brought

-- the type and the initial value of global storage
abbrev pub initial_of : Initial → rules.Initial
initial_of s = record { ty = s.ty; value = value_of s.value }

-- the labels of a type of this name
abbrev pub labels_brought : List Ident → List ℕ → Ty → List Entry
labels_brought is name T = map (λ (i : Ident). label_name i.text T (label name i.text)) is

-- the entries that a declaration brings, in order
abbrev pub brought_of : Brought → List Entry
brought_of (brought.Type name T is) = type_name name.now T ∷ labels_brought is.now name.now T
brought_of (brought.Storage name T m x) = global name.now T m (value_of x) ∷ []
brought_of (brought.Subprogram name) = subprogram name.now ∷ []
