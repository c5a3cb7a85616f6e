-- Constants belong to their types, where the runs of expressions give values of their types: a constant is what a run gives that has nodes enough.
use Rattle.std.proofs.Common.{◌≡◌, ℕ, ◌⊎◌, inl, inr, List, [], ◌∷◌, ◌++◌, None, Ok, refl, ap, subst, arith}
use Rattle.asl_syn.specs.declared.tree.Expr.{Expr}
use Rattle.asl_syn.specs.declared.tree.Decl.{Decl}
use Rattle.asl_rules.specs.Tests.{Tests}
use Rattle.asl_rules.specs.values.Values.{Value}
use Rattle.asl_rules.specs.declarations.Scopes.{Entry}
use Rattle.asl_rules.specs.expressions.Typing.{Typed}
use Rattle.asl_rules.specs.expressions.Exprs.{typed}
use Rattle.asl_rules.specs.runs.States.{Binding, Core, resting}
use Rattle.asl_rules.specs.private.Belonging.{InType}
use Rattle.asl_rules.specs.private.Agreement.{no_atoms, types_in, GlobalsMatch, Agrees}
use Rattle.asl_rules.specs.runs.Plans.{Meter, Outcome, Pure, Good, Bad, starting}
use Rattle.asl_rules.specs.declarations.Programs.{Environment}
use Rattle.asl_rules.specs.declarations.Declarations.{in_names}
use Rattle.asl_rules.specs.declarations.Constants.{constant}
use Rattle.asl_rules.specs.runs.Evaluation.{meaning, globals_among}
use Rattle.asl_laws.specs.BeforeRuns.{HoldsInitial, EndsSo, HoldsCall}
use Rattle.asl_laws.specs.Soundness.{GivesType}
use Rattle.asl_rules.proofs.scopes.Naming.{WellNamed}
use Rattle.asl_rules.proofs.values.FirstValues.{good_same, bad_good}
use Rattle.asl_laws.proofs.constants.KnownEnough.{enough}
use Rattle.asl_laws.proofs.scopes.Globals.{ConstantsBelong, AllBelong}

no_more : (names : List Entry) → names ≡ names ++ []
no_more [] = refl
no_more (e ∷ es) = ap (λ l. e ∷ l) (no_more es)

-- between two calls a state agrees with the names outside bodies
pub resting_agrees : (base : List Entry) (globals : List Binding) → GlobalsMatch base globals → Agrees base base no_atoms (resting globals)
resting_agrees base globals m = record { locals = []; names_are = no_more base; fresh = tt; plain = tt; frame = tt; globals = m; handled = tt; callers = tt }

-- the runs of expressions over these names outside bodies, in the state before any call
abbrev pub over_names : Tests → List Decl → List Entry → Environment
over_names tests ds base = record { decls = ds; names = base; limit = tests.limit }

abbrev pub GivesTypes : Tests → List Decl → List Entry → Type 0
GivesTypes tests ds base = (d : ℕ) (e : Expr) (S : Typed) (h : Meter) → typed tests e (in_names base) ≡ Ok S → GivesType base base no_atoms S.ty ((meaning (over_names tests ds base) d).expr e (resting (globals_among ds base)) h)

ends_in : (base : List Entry) (S : Typed) (c : Core) (p : Pure Value) (x : Value) (r : Outcome Core Value) → p ≡ Good x → EndsSo c p r ⊎ HoldsCall p → GivesType base base no_atoms S.ty r → InType (types_in base) no_atoms x S.ty
ends_in base S c (Good y) x r q (inl s) g = subst (λ z. InType (types_in base) no_atoms z S.ty) (good_same y x q) (subst (GivesType base base no_atoms S.ty) s.1 g).0
ends_in base S c (Good y) x r q (inr b) g = absurd b
ends_in base S c (Bad e) x r q s g = bad_good e x q

pub constants_belong : (tests : Tests) (ds : List Decl) (base : List Entry) → HoldsInitial (over_names tests ds base) (resting (globals_among ds base)) → GivesTypes tests ds base → ConstantsBelong tests base
constants_belong tests ds base holds gives e S x h k =
    let w = enough (over_names tests ds base) (resting (globals_among ds base)) holds e in
    let m : Meter = starting w.nodes None in
    ends_in base S (resting (globals_among ds base)) (constant tests.limit e base) x ((meaning (over_names tests ds base) w.nodes).expr e (resting (globals_among ds base)) m) k (w.ends w.nodes m (omega arith) (omega arith)) (gives w.nodes e S m h)

-- so they do where all runs of expressions give values of their types
pub all_belong : (tests : Tests) (ds : List Decl) → ((base : List Entry) → WellNamed base → GlobalsMatch base (globals_among ds base) → GivesTypes tests ds base) → AllBelong tests ds
all_belong tests ds gives base w m holds = constants_belong tests ds base holds (gives base w m)
