-- Storage with a written type and an initialiser: the types first, and then the value.
use Rattle.std.proofs.Common.{◌≡◌, Bool, true, Some, Result, Ok, Err, refl}
use Rattle.asl_syn.specs.declared.code.Fault.{Fault}
use Rattle.asl_syn.specs.declared.code.StaticCode.TheVariants.{T04}
use Rattle.asl_syn.specs.declared.tree.Expr.{Expr}
use Rattle.asl_syn.specs.declared.tree.TypeExpr.{TypeExpr}
use Rattle.asl_syn.specs.declared.tree.StorageDecl.{StorageDecl}
use Rattle.asl_rules.specs.Faults.{◌>>=◌, ◌>>◌, none_at, fitted}
use Rattle.asl_rules.specs.Tests.{Tests}
use Rattle.asl_rules.specs.types.Types.{Ty, misfit}
use Rattle.asl_rules.specs.types.Closed.{closed}
use Rattle.asl_rules.specs.types.Views.{viewed}
use Rattle.asl_rules.specs.declarations.Scopes.{Scope}
use Rattle.asl_rules.specs.expressions.Typing.{Typed}
use Rattle.asl_rules.specs.types.Writing.{Written}
use Rattle.asl_rules.specs.expressions.Exprs.{found, written, typed}
use Rattle.asl_rules.specs.declarations.Barred.{barred}
use Rattle.asl_rules.specs.declarations.Declarations.{with_type, known, storage_rule}
use Rattle.asl_judge.specs.private.Definitions.{both_found}

pub both_is : (t : Tests) (d : StorageDecl) (b : Bool) (ty : TypeExpr) (e : Expr) (G : Scope) → storage_rule t d b (Some ty) (Some e) G ≡ both_found t ty e G
both_is t d b ty e G = by (none_at T04 (barred e G.names)) (written t ty true G) (typed t e G)
  where
    on : (W : Written) (S : Typed) (f : Result (Unit {0}) Fault) →
        (f >> known t e G >>= λ x. Ok (with_type W.ty (viewed (closed W.ty) x))) ≡
        ((f >> Ok W.ty) >>= λ (T : Ty). known t e G >>= λ x. Ok (with_type T (viewed (closed T) x)))
    on W S (Ok u) = refl
    on W S (Err x) = refl

    by : (b : Result (Unit {0}) Fault) (r : Result Written Fault) (k : Result Typed Fault) →
        (b >> r >>= λ W. k >>= λ S. fitted (misfit t S.ty W.ty) (found t e).span >> known t e G >>= λ x. Ok (with_type W.ty (viewed (closed W.ty) x))) ≡
        ((b >> (r >>= λ W. Ok W.ty) >>= λ (T : Ty). (k >>= λ S. Ok S.ty) >>= λ (U : Ty). fitted (misfit t U T) (found t e).span >> Ok T) >>= λ (T : Ty). known t e G >>= λ x. Ok (with_type T (viewed (closed T) x)))
    by (Ok u) (Ok W) (Ok S) = on W S (fitted (misfit t S.ty W.ty) (found t e).span)
    by (Ok u) (Ok W) (Err x) = refl
    by (Ok u) (Err x) k = refl
    by (Err x) r k = refl
