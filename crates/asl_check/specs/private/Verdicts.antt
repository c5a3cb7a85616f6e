-- What the checker accepts, as the rules see it, and what it answers, against their verdict.
use Rattle.std.specs.Prelude.{◌≡◌, List, Result, Ok, Err}
use Rattle.asl_syn.specs.declared.code.Fault.{Fault}
use Rattle.asl_syn.specs.declared.code.Refused.{Refused}
use Rattle.asl_syn.specs.declared.code.Refused.TheVariants.{At, NoMemory}
use Rattle.asl_syn.specs.declared.tree.Decl.{Decl}
use Rattle.asl_syn.specs.declared.read.ReadDecl.{ReadDecl}
use Rattle.asl_rules.specs.declared.entry.Entry.{Entry}
use Rattle.asl_rules.specs.Faults.{◌>>=◌}
use Rattle.asl_rules.specs.declarations.Programs as rules
use Rattle.asl_rules.specs.declarations.Programs.{Entries, final_decls, read_verdict, verdict}
use Rattle.asl_rules.specs.Tests.{Tests}
use Rattle.asl_accessors.specs.Judged.{Both, final_of}
use Rattle.asl_tree.specs.Funcs.{all_funcs}
use Rattle.asl_tree.specs.Sealed.{Sealed}
use Rattle.asl_decl.specs.Entered.{entries_of}
use Rattle.asl_check.specs.declared.program.Accepted.{Accepted}

abbrev pub accepted_of : Entry → Accepted → rules.Accepted
accepted_of e x = rules.accepted e (entries_of x.entries) x.subs (all_funcs x.funcs) x.names

-- the numbers of the subprograms that are the entries, where they were asked for
abbrev pub entries_in : Result rules.Accepted Fault → Result Entries Fault
entries_in r = r >>= λ a. Ok a.entries

-- an answer with the entries that the verdict has, or its fault
abbrev pub HasEntries : {A : Type 0} → (A → Entries) → Result A Refused → Result rules.Accepted Fault → Type 0
HasEntries found (Ok x) r = entries_in r ≡ Ok (found x)
HasEntries found (Err (At f)) r = r ≡ Err f
HasEntries found (Err NoMemory) r = Unit {0}

-- these declarations with the entries that were asked for, which this verdict has, or its fault; want of memory says nothing
abbrev pub Seals : Entry → List Decl → Result rules.Accepted Fault → Result Sealed Refused → Type 0
Seals e ds v (Ok checked) = (checked.decls ≡ ds) × ((checked.asked ≡ e) × (entries_in v ≡ Ok checked.entries))
Seals e ds v (Err (At f)) = v ≡ Err f
Seals e ds v (Err NoMemory) = Unit {0}

-- the declarations that are judged are sealed
abbrev pub IsVerdict : Tests → Entry → List Decl → Result Sealed Refused → Type 0
IsVerdict t e ds r = Seals e ds (verdict e ds t) r

-- of declarations as they are read, those with the bodies that replace others are sealed
abbrev pub IsReadVerdict : Tests → Entry → List ReadDecl → Result Sealed Refused → Type 0
IsReadVerdict t e ds r = Seals e (final_decls ds) (read_verdict e ds t) r

-- the verdict on the declarations with the bodies that may be replaced, and behind it that on those with the bodies that replace them
abbrev pub both_verdict : Entry → Both → Tests → Result rules.Accepted Fault
both_verdict e b t = verdict e b.defaults t >>= λ a. verdict e (final_of b) t
