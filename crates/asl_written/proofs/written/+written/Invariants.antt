use Rattle.std.proofs.Common.{◌≡◌, drop, Ok}
use Rattle.asl_rules.specs.Faults.{◌>>=◌}
use Rattle.asl_rules.specs.Tests.{Tests}
use Rattle.asl_rules.specs.types.Writing as rules
use Rattle.asl_subprograms.specs.private.ContextView.{scope_of}
use Rattle.asl_types.specs.Suits.{Suits}
use Rattle.asl_written.specs.private.WrittenTypes.{found_types, types_view, no_types, with_types, behind_types}
use Rattle.asl_written.proofs.written.+written.Given as goal

abbrev pub invariant-all_written-loop-ty : goal.invariant-all_written-loop-ty
invariant-all_written-loop-ty l = (t : Tests) → Suits t →
    (rules.types_in_order l.outside (found_types t l.types) (scope_of l.context) >>= λ Ws. Ok (with_types no_types Ws)) ≡ behind_types (types_view l.made) (rules.types_in_order l.outside (found_types t (drop l.ty-index l.types)) (scope_of l.context))
