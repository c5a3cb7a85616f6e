-- What each tree that a text is read to has, and the rules rely on: they don't ask for it again.
use Rattle.std.specs.Prelude.{◌≡◌, ℕ, zero, suc, Bool, true, false, ◌||◌, List, [], ◌∷◌, length, is_some}
use Rattle.asl_syn.specs.declared.tree.TypeDef.{TypeDef}
use Rattle.asl_syn.specs.declared.tree.TypeDef.TheVariants as td
use Rattle.asl_syn.specs.declared.tree.Decl.{Decl}
use Rattle.asl_syn.specs.declared.tree.Decl.TheVariants as dc
use Rattle.asl_syn.specs.declared.read.ReadDecl.{ReadDecl}
use Rattle.asl_syn.specs.declared.read.ReadDecl.TheVariants as rd

abbrev pub is_positive : ℕ → Bool
is_positive zero = false
is_positive (suc n) = true

abbrev pub is_def_grown : TypeDef → Bool
is_def_grown (td.Alias t) = true
is_def_grown (td.Labels span is) = is_positive (length is)
is_def_grown (td.Record span fs) = true
is_def_grown (td.Exception span fs) = true

-- an enumeration has a label, and storage a type or an initialiser
abbrev pub is_grown : Decl → Bool
is_grown (dc.Type d) = is_def_grown d.def
is_grown (dc.Storage d) = is_some d.ty || is_some d.init
is_grown (dc.Func f) = true

-- declarations such as are read from texts and written out
abbrev pub AreGrown : List Decl → Type 0
AreGrown [] = Unit {0}
AreGrown (d ∷ ds) = (is_grown d ≡ true) × AreGrown ds

-- the same of declarations as they are read
abbrev pub is_read_grown : ReadDecl → Bool
is_read_grown (rd.Type d) = is_def_grown d.def
is_read_grown (rd.Storage d) = is_some d.ty || is_some d.init
is_read_grown (rd.Func f) = true
is_read_grown (rd.Accessor a) = true

abbrev pub AreReadGrown : List ReadDecl → Type 0
AreReadGrown [] = Unit {0}
AreReadGrown (d ∷ ds) = (is_read_grown d ≡ true) × AreReadGrown ds
