-- A program whose declarations are well formed: its bodies, and the entries.
use Rattle.std.specs.Prelude.{List, Result, Ok}
use Rattle.asl_syn.specs.declared.code.Fault.{Fault}
use Rattle.asl_rules.specs.declared.entry.Entry.{Entry}
use Rattle.asl_rules.specs.Faults.{◌>>=◌}
use Rattle.asl_rules.specs.Tests.{Tests}
use Rattle.asl_rules.specs.declarations.Programs.{Accepted, Head, accepted, signatures, bodies_rule, entry_rule}
use Rattle.asl_rules.specs.declarations.Scopes as scopes
use Rattle.asl_rules.specs.declarations.Scopes.{Signature}
use Rattle.asl_decl.specs.Heads.{Declared}

-- with these signatures of its subprograms
abbrev pub with_bodies : Entry → List scopes.Entry → List Head → List Signature → Tests → Result Accepted Fault
with_bodies e names heads subs t = bodies_rule t subs heads >>= λ trees. entry_rule e subs >>= λ found. Ok (accepted e found subs trees names)

abbrev pub with_entry_found : Entry → Declared → Tests → Result Accepted Fault
with_entry_found e d t = with_bodies e d.names d.heads (signatures d.heads) t
