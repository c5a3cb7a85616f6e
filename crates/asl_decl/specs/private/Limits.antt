-- How deep the calls of a subprogram by itself may go, as the checker finds it.
use Rattle.std.specs.Prelude.{ℤ, pos, List, Option, None, Some, Result, Ok}
use Rattle.asl_syn.specs.declared.code.Fault.{Fault}
use Rattle.asl_syn.specs.declared.code.StaticCode.TheVariants.{T04, T05}
use Rattle.asl_syn.specs.declared.tree.Expr.{Expr}
use Rattle.asl_syn.specs.declared.tree.Func.{Func}
use Rattle.asl_rules.specs.declared.effect.Effect.TheVariants.{Pure}
use Rattle.asl_rules.specs.Faults.{◌>>=◌, ◌>>◌, need, none_at}
use Rattle.asl_rules.specs.runs.Limits.{most_activations}
use Rattle.asl_rules.specs.Tests.{Tests}
use Rattle.asl_rules.specs.types.Types.{is_integer}
use Rattle.asl_rules.specs.declarations.Scopes.{Entry, Param, with_class}
use Rattle.asl_rules.specs.expressions.Exprs.{found}
use Rattle.asl_rules.specs.declarations.Barred.{barred}
use Rattle.asl_rules.specs.declarations.Declarations.{in_names, known}
use Rattle.asl_rules.specs.declarations.Programs.{limit_typed, params_are_integers, limit_rule, as_number}
use Rattle.asl_judge.specs.private.Definitions.{type_found}

-- the types of the parameters are integers, and then the number that is written, or the usual one
abbrev pub limit_after : Tests → Func → List Param → List Entry → Result ℤ Fault
limit_after t f ps globals = limit_typed t f.limit globals >>= λ l. params_are_integers t f.params ps >> limit_rule t f.limit l globals

-- the value of an integer
abbrev pub limit_known : Tests → Expr → List Entry → Result ℤ Fault
limit_known t e globals = known t e (in_names globals) >>= λ x. as_number (found t e).span x

-- where an expression is written
abbrev pub limit_written : Tests → Func → Expr → List Param → List Entry → Result ℤ Fault
limit_written t f e ps globals =
    none_at T04 (barred e globals) >>
    type_found t e (with_class (in_names globals) Pure) >>= λ T.
    params_are_integers t f.params ps >>
    need (is_integer T) T05 (found t e).span >>
    limit_known t e globals

-- and where none is
abbrev pub limit_usual : Tests → Func → List Param → Result ℤ Fault
limit_usual t f ps = params_are_integers t f.params ps >> Ok (pos most_activations)

abbrev pub limit_by : Tests → Func → Option Expr → List Param → List Entry → Result ℤ Fault
limit_by t f None ps globals = limit_usual t f ps
limit_by t f (Some e) ps globals = limit_written t f e ps globals
