-- The integers of a range, where it could be written, or all.
use Rattle.std.proofs.Common.{◌≡◌, List, [], Result, Ok, Err, sym, subst}
use Rattle.std.specs.Prelude.{IfOk}
use Rattle.asl_syn.specs.declared.code.Fault.{Fault}
use Rattle.asl_syn.specs.declared.code.Refused.{Refused}
use Rattle.asl_syn.specs.declared.code.Refused.TheVariants.{At}
use Rattle.asl_cons.specs.declared.Part.{Part}
use Rattle.asl_rules.specs.statements.Branches.{of_range}
use Rattle.asl_rules.specs.types.Types.{Ty, integer_of}
use Rattle.asl_rules.specs.types.Writing.{WrittenPart}
use Rattle.asl_types.specs.private.Answers.{Met}
use Rattle.asl_written.specs.private.Constraints.{part_view}
use Rattle.asl_written.specs.declared.constraints.PartWritten.{PartWritten}

pub range_none : {E : Type 0} (result : Result PartWritten Refused) (f : Fault) (r : Result WrittenPart Fault) → result ≡ Err (At f) → Met part_view result r → (o : Result Ty E) (ps : List Part) → ps ≡ [] → IfOk o (λ ty. ty ≡ integer_of ps) → IfOk o (λ ty. ty ≡ of_range r)
range_none {E} result f r is met o ps none h =
    subst (λ z. IfOk o (λ ty. ty ≡ of_range z)) (sym (subst (λ q. Met part_view q r) is met)) (subst (λ zs. IfOk o (λ ty. ty ≡ integer_of zs)) none h)

pub range_some : {E : Type 0} (result : Result PartWritten Refused) (w : PartWritten) (r : Result WrittenPart Fault) → result ≡ Ok w → Met part_view result r → (o : Result Ty E) → IfOk o (λ ty. ty ≡ of_range (Ok (part_view w))) → IfOk o (λ ty. ty ≡ of_range r)
range_some {E} result w r is met o h = subst (λ z. IfOk o (λ ty. ty ≡ of_range z)) (sym (subst (λ q. Met part_view q r) is met)) h
