-- How deep the calls of a subprogram by itself may go: the checker's order is that of the rule.
use Rattle.std.proofs.Common.{◌≡◌, Option, Some, None, List, Result, Ok, Err, refl}
use Rattle.asl_syn.specs.declared.code.Fault.{Fault}
use Rattle.asl_syn.specs.declared.code.StaticCode.TheVariants.{T04, T05}
use Rattle.asl_syn.specs.declared.tree.Expr.{Expr}
use Rattle.asl_syn.specs.declared.tree.Func.{Func}
use Rattle.asl_rules.specs.declared.effect.Effect.TheVariants.{Pure}
use Rattle.asl_rules.specs.Faults.{◌>>=◌, ◌>>◌, need, none_at}
use Rattle.asl_rules.specs.Tests.{Tests}
use Rattle.asl_rules.specs.types.Types.{Ty, is_integer}
use Rattle.asl_rules.specs.expressions.Typing.{Typed}
use Rattle.asl_rules.specs.declarations.Scopes.{Entry, Param, with_class}
use Rattle.asl_rules.specs.expressions.Exprs.{found, typed}
use Rattle.asl_rules.specs.declarations.Barred.{barred}
use Rattle.asl_rules.specs.declarations.Declarations.{in_names}
use Rattle.asl_rules.specs.declarations.Programs.{limit_typed, params_are_integers, limit_rule}
use Rattle.asl_decl.specs.private.Limits.{limit_after, limit_known, limit_by}

in_order : (t : Tests) (f : Func) (o : Option Expr) (ps : List Param) (globals : List Entry) →
    (limit_typed t o globals >>= λ l. params_are_integers t f.params ps >> limit_rule t o l globals) ≡ limit_by t f o ps globals
in_order t f None ps globals = refl
in_order t f (Some e) ps globals = by (none_at T04 (barred e globals)) (typed t e (with_class (in_names globals) Pure))
  where
    by : (b : Result (Unit {0}) Fault) (r : Result Typed Fault) →
        ((b >> r >>= λ (S : Typed). Ok (Some S)) >>= λ (l : Option Typed). params_are_integers t f.params ps >> limit_rule t (Some e) l globals) ≡
        (b >> (r >>= λ (S : Typed). Ok S.ty) >>= λ (T : Ty). params_are_integers t f.params ps >> need (is_integer T) T05 (found t e).span >> limit_known t e globals)
    by (Ok u) (Ok S) = refl
    by (Ok u) (Err x) = refl
    by (Err x) r = refl

-- where an expression is written or none
pub limit_is : (t : Tests) (f : Func) (ps : List Param) (globals : List Entry) → limit_after t f ps globals ≡ limit_by t f f.limit ps globals
limit_is t f ps globals = in_order t f f.limit ps globals
