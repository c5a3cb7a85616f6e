-- What files are answered by: the program that they hold, or their one fault.
use Rattle.std.specs.Prelude.{◌≡◌, ℕ, ◌⊎◌, List, Result, Ok, Err}
use Rattle.asl_syn.specs.declared.code.Fault.{Fault}
use Rattle.asl_syn.specs.declared.tree.Decl.{Decl}
use Rattle.asl_syn.specs.declared.read.ReadDecl.{ReadDecl}
use Rattle.asl_grammar.specs.Reading.{File, ReadsAt}
use Rattle.asl_rules.specs.declared.entry.Entry.{Entry}
use Rattle.asl_rules.specs.declarations.Programs.{Accepted, ReadOk, ReadFault, default_decls, final_decls}

-- files that are read to declarations which are well formed, with this entry and under this width limit
pub record FilesOk (limit : ℕ) (e : Entry) (files : List File) (a : Accepted) : Type 0 where
  pub decls : List ReadDecl
  pub reads : ReadsAt limit files (Ok decls)
  pub ok : ReadOk limit e decls a

-- files with this one fault: it is met as they are read, or it is that of the declarations that are read
abbrev pub FaultOfFiles : ℕ → Entry → List File → Fault → Type 0
FaultOfFiles limit e files f = ReadsAt limit files (Err f) ⊎ ((ds : List ReadDecl) × ReadsAt limit files (Ok ds) × ReadFault limit e ds f)

abbrev pub AnsweredBy : ℕ → Entry → List File → Result Accepted Fault → Type 0
AnsweredBy limit e files (Ok a) = FilesOk limit e files a
AnsweredBy limit e files (Err f) = FaultOfFiles limit e files f

-- files have one answer: they are well formed, as one program, or have one single fault
pub record OneAnswer (limit : ℕ) (e : Entry) (files : List File) : Type 0 where
  pub answer : Result Accepted Fault
  pub is : AnsweredBy limit e files answer
  pub only : (r : Result Accepted Fault) → AnsweredBy limit e files r → r ≡ answer

-- declarations that are judged of files, under this width limit: these are read to some, which are written out with the bodies that may be replaced, or with those
-- that replace them
pub record AreJudged (limit : ℕ) (files : List File) (ds : List Decl) : Type 0 where
  pub read : List ReadDecl
  pub reads : ReadsAt limit files (Ok read)
  pub are : (ds ≡ default_decls read) ⊎ (ds ≡ final_decls read)
