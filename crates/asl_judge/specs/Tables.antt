-- What the declarations of a program are judged to bring.
use Rattle.std.specs.Prelude.{List, Result}
use Rattle.asl_syn.specs.declared.code.Fault.{Fault}
use Rattle.asl_syn.specs.declared.tree.Decl.{Decl}
use Rattle.asl_rules.specs.Faults.{◌>>◌}
use Rattle.asl_rules.specs.Tests.{Tests}
use Rattle.asl_rules.specs.declarations.Turns.{final, faults_rule}
use Rattle.asl_names.specs.private.Cycles.{order_rule}

-- names, order, and then each declaration
abbrev pub declarations_rule : Tests → List Decl → Result (Unit {0}) Fault
declarations_rule t ds = order_rule ds >> faults_rule (final t ds)
