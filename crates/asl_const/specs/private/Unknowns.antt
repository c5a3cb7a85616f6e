-- What the failures of operations are to an evaluation.
use Rattle.asl_rules.specs.runs.Plans as plans
use Rattle.asl_value.specs.declared.failure.Failure.{Failure}
use Rattle.asl_value.specs.declared.failure.Failure.TheVariants as failure
use Rattle.asl_const.specs.declared.failure.Mistake.{Mistake}
use Rattle.asl_const.specs.declared.failure.Mistake.TheVariants as mistake
use Rattle.asl_const.specs.declared.failure.Unknown.{Unknown}
use Rattle.asl_const.specs.declared.failure.Unknown.TheVariants as unknown

abbrev pub unknown_of : Failure → Unknown
unknown_of (failure.Fault code span) = unknown.Fault code span
unknown_of (failure.WrongKind span) = unknown.Stuck mistake.WrongKind span
unknown_of (failure.UnknownType span) = unknown.Stuck mistake.UnknownType span
unknown_of failure.NoMemory = unknown.NoMemory

abbrev pub mistake_of : Mistake → plans.Mistake
mistake_of mistake.UnknownName = plans.UnknownName
mistake_of mistake.WrongKind = plans.WrongKind
mistake_of mistake.UnknownType = plans.UnknownType
mistake_of mistake.CallBarred = plans.CallBarred
