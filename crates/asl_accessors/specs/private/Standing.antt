-- What stands for a declaration in the two programs, by what becomes of it.
use Rattle.std.specs.Prelude.{ℕ, List, [], ◌∷◌, Option, Some, None, slice_get}
use Rattle.asl_syn.specs.declared.read.ReadDecl.{ReadDecl}
use Rattle.asl_syn.specs.declared.tree.Decl.{Decl}
use Rattle.asl_rules.specs.declarations.WrittenOut.{decl_written}
use Rattle.asl_rules.specs.declarations.Replacing.{without_word}
use Rattle.asl_accessors.specs.declared.matching.Part.{Part}
use Rattle.asl_accessors.specs.declared.matching.Part.TheVariants.{Stays, Replaced, AlsoReplaced, Replaces}

-- what stands for the one with this number, in the program with the bodies that may be replaced and in that with those that replace others
abbrev pub default_for : Part → ℕ → List ReadDecl → Option ReadDecl
default_for Stays n ds = slice_get ds n
default_for (Replaced p) n ds = slice_get ds n
default_for (AlsoReplaced p) n ds = slice_get ds n
default_for Replaces n ds = None

abbrev pub final_for : Part → ℕ → List ReadDecl → Option ReadDecl
final_for Stays n ds = slice_get ds n
final_for (Replaced p) n ds = slice_get ds p
final_for (AlsoReplaced p) n ds = slice_get ds p
final_for Replaces n ds = None

abbrev pub all_without_word : Option ReadDecl → List ReadDecl
all_without_word None = []
all_without_word (Some d) = without_word d ∷ []

-- what is written of one in the program with the bodies that may be replaced, and what is left of it
abbrev pub written_for : Part → ReadDecl → List Decl
written_for Stays d = decl_written d
written_for (Replaced p) d = decl_written d
written_for (AlsoReplaced p) d = decl_written d
written_for Replaces d = []

abbrev pub left_for : Part → ReadDecl → Option ReadDecl
left_for Stays d = None
left_for (Replaced p) d = None
left_for (AlsoReplaced p) d = None
left_for Replaces d = Some d
