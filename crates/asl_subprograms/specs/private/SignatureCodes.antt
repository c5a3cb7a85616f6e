-- The parameters and the signatures of the rules as data of the code, by which one can be told from another.
use Rattle.std.specs.Prelude.{ℕ, ℤ, List, Option, refl}
use Rattle.std.specs.Coded.{Coded, code_by, coded×, coded_ℕ, coded_ℤ, coded_list, coded_option}
use Rattle.asl_rules.specs.declared.effect.Effect.{Effect}
use Rattle.asl_rules.specs.contracts.effect.Effect as effect_in_code
use Rattle.asl_rules.specs.types.Types as types
use Rattle.asl_rules.specs.declarations.Scopes.{Param, Signature}
use Rattle.asl_types.specs.private.Codes.{ty_code, parts_code}

abbrev pub param_code : Coded Param
param_code = code_by (ℕ × Option types.Ty) (coded× coded_ℕ (coded_option ty_code)) (λ p. (p.atom, p.ty)) (λ q. record { atom = q.0; ty = q.1 }) (λ _. refl)

abbrev pub signature_code : Coded Signature
signature_code =
    code_by (List ℕ × (Effect × (List Param × (types.Parts × (Option types.Ty × ℤ)))))
    (coded× (coded_list coded_ℕ) (coded× effect_in_code.the_row.coded (coded× (coded_list param_code) (coded× parts_code (coded× (coded_option ty_code) coded_ℤ)))))
    (λ f. (f.name, (f.class, (f.params, (f.formals, (f.result, f.limit))))))
    (λ q. record { name = q.0; class = q.1.0; params = q.1.1.0; formals = q.1.1.1.0; result = q.1.1.1.1.0; limit = q.1.1.1.1.1 }) (λ _. refl)

abbrev pub signatures_code : Coded (List Signature)
signatures_code = coded_list signature_code
