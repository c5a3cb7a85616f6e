-- No evaluation before a run is stuck: it is that of a run in the state before any call, which soundness knows not to be stuck.
use Rattle.std.proofs.Common.{◌≡◌, ℕ, zero, suc, Bool, true, false, cond, List, [], Option, Some, None, Ok, refl, subst, arith, inl}
use Rattle.std.specs.Prelude.{ℤ, pos, negsuc, nat_le}
use Rattle.asl_syn.specs.declared.token.Span.{Span}
use Rattle.asl_syn.specs.declared.code.DynCode.TheVariants.{D14}
use Rattle.asl_syn.specs.declared.tree.Decl.{Decl}
use Rattle.asl_grammar.specs.Reading.{File}
use Rattle.asl_laws.specs.Answers.{AreJudged}
use Rattle.asl_rules.specs.Tests.{Tests, IsRight}
use Rattle.asl_rules.specs.types.Types.{Ty, View, Kind}
use Rattle.asl_rules.specs.types.Closed.{Closed, integer_in, boolean, bits_of, enumeration_of, record_of, exception_of, tuple_of, array_of, named, ClosedFields, no_field, field, ClosedParts, no_part, part, first_in}
use Rattle.asl_rules.specs.values.Values.{Value}
use Rattle.asl_rules.specs.declarations.Names.{names_rule, all_declared}
use Rattle.asl_rules.specs.declarations.Scopes.{Entry, with_class}
use Rattle.asl_rules.specs.runs.States.{Core, resting}
use Rattle.asl_rules.specs.private.Belonging.{InType}
use Rattle.asl_rules.specs.private.Agreement.{no_atoms, types_in, GlobalsMatch}
use Rattle.asl_rules.specs.runs.Plans.{Meter, starting, Faulted, Stuck, Outcome, Pure, Good, Bad}
use Rattle.asl_rules.specs.runs.Pures.{◌>>=◌}
use Rattle.asl_rules.specs.declarations.Constants.{constant}
use Rattle.asl_rules.specs.types.Written.{first_integer, first_bits, first_elements, first_value, first_fields, first_parts}
use Rattle.asl_rules.specs.declarations.Declarations.{in_names}
use Rattle.asl_rules.specs.declarations.Turns.{names_of_program}
use Rattle.asl_rules.specs.private.Grown.{AreGrown}
use Rattle.asl_rules.specs.runs.Evaluation.{meaning, globals_among}
use Rattle.asl_laws.specs.BeforeRuns.{HoldsInitial, EndsSo}
use Rattle.asl_laws.specs.Soundness.{NotStuck, GivesType}
use Rattle.asl_laws.specs.Evaluated.{GivesOrFaults, ConstantsGiven, names_after, Evaluates}
use Rattle.asl_rules.proofs.scopes.Naming.{WellNamed}
use Rattle.asl_laws.proofs.scopes.Globals.{AllBelong, grown_labels, names_good, globals_good, turn_named, turn_match}
use Rattle.asl_laws.proofs.scopes.GrownTexts.{judged_grown}
use Rattle.asl_rules.proofs.verdict.Distinct.{Distinct, distinct_of}
use Rattle.asl_laws.proofs.evaluations.NoCalls.{ends_uncalled}
use Rattle.asl_laws.proofs.constants.KnownStart.{starts, starts_at}
use Rattle.asl_laws.proofs.constants.KnownTypes.{over_names, resting_agrees}
use Rattle.asl_laws.proofs.expressions.AllExprs.{Others}
use Rattle.asl_laws.proofs.statements.AllStmts.{OtherStmts}
use Rattle.asl_laws.proofs.soundness.GivenTypes.{typed_run, belong_by_forms}
use Rattle.asl_laws.proofs.soundness.SoundnessEnds.{no_calls, no_procedures}
use Rattle.asl_laws.proofs.soundness.Soundness.{others_of}
use Rattle.asl_laws.proofs.expressions.Claims.{around_of}

-- ---- first values

given_on : {A B : Type 0} (r : Pure A) (f : A → Pure B) → GivesOrFaults (λ x. Unit {0}) r → ((x : A) → GivesOrFaults (λ y. Unit {0}) (f x)) → GivesOrFaults (λ y. Unit {0}) (r >>= f)
given_on (Good x) f h k = k x
given_on (Bad (Faulted code span)) f h k = tt
given_on (Bad (Stuck mistake span)) f h k = absurd h

integer_given : (span : Span) (o : Option ℤ) → GivesOrFaults (λ x. Unit {0}) (first_integer span o)
integer_given span None = tt
integer_given span (Some z) = tt

wide_given : (span : Span) (x : Value) (b : Bool) → GivesOrFaults (λ y. Unit {0}) (cond b (Good x) (Bad (Faulted D14 span)))
wide_given span x true = tt
wide_given span x false = tt

bits_given : (limit : ℕ) (span : Span) (w : ℤ) (u : View) → GivesOrFaults (λ x. Unit {0}) (first_bits limit span w u)
bits_given limit span (pos w) u = wide_given span _ (nat_le w limit)
bits_given limit span (negsuc w) u = tt

elements_given : (n : ℕ) (k : Kind) (r : Pure Value) → GivesOrFaults (λ x. Unit {0}) r → GivesOrFaults (λ x. Unit {0}) (first_elements n k r)
elements_given zero k r h = tt
elements_given (suc n) k r h = given_on r _ h (λ x. tt)

mutual
  value_given : (limit : ℕ) (span : Span) (T : Closed) → GivesOrFaults (λ x. Unit {0}) (first_value limit span T)
  value_given limit span (integer_in c) = integer_given span (first_in c)
  value_given limit span boolean = tt
  value_given limit span (bits_of w u) = bits_given limit span w u
  value_given limit span (enumeration_of name labels) = tt
  value_given limit span (record_of name fs) = given_on (first_fields limit span fs) _ (fields_given limit span fs) (λ xs. tt)
  value_given limit span (exception_of name fs) = given_on (first_fields limit span fs) _ (fields_given limit span fs) (λ xs. tt)
  value_given limit span (tuple_of ts) = given_on (first_parts limit span ts) _ (parts_given limit span ts) (λ xs. tt)
  value_given limit span (array_of n k T) = elements_given n k (first_value limit span T) (value_given limit span T)
  value_given limit span (named name supers T) = given_on (first_value limit span T) _ (value_given limit span T) (λ x. tt)

  fields_given : (limit : ℕ) (span : Span) (fs : ClosedFields) → GivesOrFaults (λ x. Unit {0}) (first_fields limit span fs)
  fields_given limit span no_field = tt
  fields_given limit span (field f T fs) = given_on (first_value limit span T) _ (value_given limit span T) (λ x. given_on (first_fields limit span fs) _ (fields_given limit span fs) (λ xs. tt))

  parts_given : (limit : ℕ) (span : Span) (ts : ClosedParts) → GivesOrFaults (λ x. Unit {0}) (first_parts limit span ts)
  parts_given limit span no_part = tt
  parts_given limit span (part T ts) = given_on (first_value limit span T) _ (value_given limit span T) (λ x. given_on (first_parts limit span ts) _ (parts_given limit span ts) (λ xs. tt))

-- ---- constants

-- an evaluation that ends as a run does which isn't stuck
given_by : (base : List Entry) (c : Core) (T : Ty) (p : Pure Value) (r : Outcome Core Value) → EndsSo c p r → NotStuck r → GivesType base base no_atoms T r → GivesOrFaults (λ x. InType (types_in base) no_atoms x T) p
given_by base c T (Good x) r e k g = (subst (GivesType base base no_atoms T) e.1 g).0
given_by base c T (Bad (Faulted code span)) r e k g = tt
given_by base c T (Bad (Stuck mistake span)) r e k g = subst NotStuck e.1 k

module _ (tests : Tests) (right : IsRight tests) (ds : List Decl) (base : List Entry) (w : WellNamed base) (m : GlobalsMatch base (globals_among ds base)) (holds : HoldsInitial (over_names tests ds base) (resting (globals_among ds base))) where
  others : Others tests right ds base [] true [] w tt
  others = no_calls tests right ds base w

  statements : OtherStmts tests right ds base [] true [] w
  statements = others_of tests right ds base [] true [] w (no_procedures tests right ds base w)

  abbrev here : Core
  here = resting (globals_among ds base)

  pub constants_given : ConstantsGiven tests base
  constants_given e k S b h =
      let u = ends_uncalled (over_names tests ds base) here holds e b in
      let full : Meter = starting u.nodes None in
      let t = typed_run tests right ds base [] true [] w tt others statements u.nodes e (record { scope = with_class (in_names base) k; present = no_atoms; around = around_of (resting (globals_among ds base)) }) S here full h
      (record { agrees = resting_agrees base (globals_among ds base) m; subs_are = refl; around_is = refl; stands = inl refl; counted = inl refl }) in
      given_by base here S.ty (constant tests.limit e base) ((meaning (over_names tests ds base) u.nodes).expr e here full) (u.so full (omega arith)) t.0 t.1

-- ---- of declarations

pub evaluates : (tests : Tests) (right : IsRight tests) (ds : List Decl) → AreGrown ds → names_rule [] (all_declared ds) ≡ Ok tt → Evaluates tests ds
evaluates tests right ds grown apart =
    let distinct : Distinct (all_declared ds) = distinct_of (all_declared ds) [] apart in
    let labels = grown_labels ds grown in
    let belong : AllBelong tests ds = belong_by_forms tests right ds (λ b w. (no_calls tests right ds b w, others_of tests right ds b [] true [] w (no_procedures tests right ds b w))) in
    record {
      each_turn =
          λ n. constants_given tests right ds (names_after tests n ds) (turn_named tests right ds distinct labels belong n)
          (turn_match tests right ds distinct labels belong n) (starts_at tests n ds);
      all = constants_given tests right ds (names_of_program tests ds) (names_good tests right ds distinct labels belong) (globals_good tests right ds distinct labels belong) (starts tests ds);
      first = λ at T. value_given tests.limit at T;
    }

-- of what is read from files
pub read_evaluates : (t : Tests) → IsRight t → (files : List File) (ds : List Decl) → AreJudged t.limit files ds → names_rule [] (all_declared ds) ≡ Ok tt → Evaluates t ds
read_evaluates t right files ds r apart = evaluates t right ds (judged_grown t.limit files ds r) apart
