-- Satisfaction of types: its parts.
use Rattle.std.proofs.Common.{◌≡◌, Bool, true, false, Option, Some, None, refl, ap, ◌∙◌}
use Rattle.std.specs.Prelude.{if◌then◌else◌}
use Rattle.asl_syn.specs.declared.code.StaticCode.{StaticCode}
use Rattle.asl_syn.specs.declared.code.StaticCode.TheVariants.{T05}
use Rattle.asl_rules.specs.Tests.{Tests}
use Rattle.asl_rules.specs.types.Types.{Ty, same_kind, unless, or_else, misfit_inside, misfit}
use Rattle.asl_rules.proofs.basics.Tests.{some_none}

pub or_both : (o p : Option StaticCode) → or_else o p ≡ None → (o ≡ None) × (p ≡ None)
or_both None p h = (refl, h)
or_both (Some c) p h = some_none c h

pub or_none : (o p : Option StaticCode) → o ≡ None → p ≡ None → or_else o p ≡ None
or_none None p g h = h
or_none (Some c) p g h = some_none c g

-- a test without a fault holds
pub it_holds : (b : Bool) (code : StaticCode) → unless b code ≡ None → b ≡ true
it_holds true code h = refl
it_holds false code h = some_none code h

if_fits : (b : Bool) (o : Option StaticCode) → (if b then o else Some T05) ≡ None → (b ≡ true) × (o ≡ None)
if_fits true o h = (refl, h)
if_fits false o h = some_none T05 h

pub fit_parts : (t : Tests) (S T : Ty) → misfit t S T ≡ None → (same_kind S T ≡ true) × (misfit_inside t S T ≡ None)
fit_parts t S T h = if_fits (same_kind S T) (misfit_inside t S T) h

pub fit_from : (t : Tests) (S T : Ty) → same_kind S T ≡ true → misfit_inside t S T ≡ None → misfit t S T ≡ None
fit_from t S T k h = ap (λ b. if b then misfit_inside t S T else Some T05) k ∙ h
