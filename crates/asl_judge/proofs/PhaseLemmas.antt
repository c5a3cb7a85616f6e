-- The judgements of all declarations are the rule of their faults.
use Rattle.std.proofs.Common.{◌≡◌, List, [], Result, Ok, Err, sym, ap, ◌∙◌}
use Rattle.asl_syn.specs.declared.code.Fault.{Fault}
use Rattle.asl_syn.specs.declared.tree.Decl.{Decl}
use Rattle.asl_rules.specs.Faults.{◌>>◌}
use Rattle.asl_rules.specs.Tests.{Tests}
use Rattle.asl_rules.specs.declarations.Names.{names_rule, all_declared}
use Rattle.asl_rules.specs.declarations.Uses.{cycles_rule}
use Rattle.asl_rules.specs.declarations.Turns.{SoFar, final, faults_rule}
use Rattle.asl_names.specs.private.Cycles.{order_rule}
use Rattle.asl_judge.specs.Tables.{declarations_rule}
use Rattle.asl_rules.proofs.basics.Inversions.{then_ok}

pub names_first : (ds : List Decl) → order_rule ds ≡ Ok tt → names_rule [] (all_declared ds) ≡ Ok tt
names_first ds h = (then_ok (names_rule [] (all_declared ds)) (cycles_rule ds ds) tt h).first

pub declarations_stop : (t : Tests) (ds : List Decl) (f : Fault) → order_rule ds ≡ Err f → declarations_rule t ds ≡ Err f
declarations_stop t ds f h = ap (λ r. r >> faults_rule (final t ds)) h

pub declarations_then : (t : Tests) (ds : List Decl) (js : SoFar) (r : Result (Unit {0}) Fault) → order_rule ds ≡ Ok tt → js ≡ final t ds →
    faults_rule js ≡ r → declarations_rule t ds ≡ r
declarations_then t ds js r h j k = ap (λ q. q >> faults_rule (final t ds)) h ∙ ap faults_rule (sym j) ∙ k
