-- What the rules of expressions, of written types, of slices and of patterns are made of: faults stand at spans that are given, or at those of parts, and have
-- other codes than T04.
use Rattle.std.specs.Prelude.{ℕ, suc, ℤ, pos, negsuc, Bool, true, false, if◌then◌else◌, List, [], ◌∷◌, ◌++◌, Option, Some, None, Result, Ok}
use Rattle.asl_syn.specs.declared.token.Span.{Span}
use Rattle.asl_syn.specs.declared.code.Fault.{Fault}
use Rattle.asl_syn.specs.declared.code.StaticCode.{StaticCode}
use Rattle.asl_syn.specs.declared.code.StaticCode.TheVariants.{T02, T11, T19}
use Rattle.asl_syn.specs.declared.tree.Ident.{Ident}
use Rattle.asl_syn.specs.declared.tree.UnaryOperator.{UnaryOperator}
use Rattle.asl_syn.specs.declared.tree.UnaryOperator.TheVariants as unary
use Rattle.asl_syn.specs.declared.tree.BinaryOperator.{BinaryOperator}
use Rattle.asl_syn.specs.declared.tree.BinaryOperator.TheVariants as binary
use Rattle.asl_poly.specs.Terms.{Polynomial}
use Rattle.asl_rules.specs.Faults.{◌>>=◌, ◌>>◌, need, found_or}
use Rattle.asl_rules.specs.declarations.Routines.{Routine, routine_named}
use Rattle.asl_rules.specs.Tests.{Tests}
use Rattle.asl_rules.specs.types.Types.{Ty, Fields, Parts, Widths, View, no_part, part}
use Rattle.asl_rules.specs.values.Values.{Value, int}
use Rattle.asl_rules.specs.declarations.Scopes.{Scope, Counted, Standing, Stored, Label, Signature, Param}
use Rattle.asl_rules.specs.types.Widths.{Total, length_of, width_of_counted, width_of_known, width_of_standing, width_combined, width_divided, number_of_counted, number_of_known, number_of_standing, number_combined, number_divided}
use Rattle.asl_rules.specs.types.Arithmetic.{reading_of_two}
use Rattle.asl_rules.specs.declared.joining.Joining.{Joining}
use Rattle.asl_rules.specs.declared.joining.Joining.TheVariants.{Combines, Divides, JoinsNothing}
use Rattle.asl_rules.specs.declared.joining.Combination.{Combination}
use Rattle.asl_rules.specs.declared.joining.Combination.TheVariants.{Sum, Difference, Product}
use Rattle.asl_rules.specs.expressions.Typing.{Found, Operand, operands}
use Rattle.asl_rules.specs.expressions.Operations.{unary_rule, binary_rule}
use Rattle.asl_rules.specs.values.Members.{bitfields_in, constructed, given_once, all_fit}
use Rattle.asl_rules.specs.expressions.Slicing.{FoundSlice, all_operands, all_add}
use Rattle.asl_rules.specs.types.Writing.{WrittenField, WrittenEnd, Numbered, end_rule, one_bit_rule, bit_range_rule, FoundPart, FoundBitfield, FoundType, all_parts, all_fields, all_numbered, all_placed, view_rule, types_in_order}
use Rattle.asl_rules.specs.expressions.Patterns.{FoundPattern, all_match, parts_match}
use Rattle.asl_rules.specs.expressions.Calls.{Given, Giving, given_by_argument, is_width_alone, function_rule, Replacing, widths_given, widths_omitted, widths_rule, params_fit, arguments_fit, fits_written, function_of, procedure_of, procedure_rule, call_begun}
use Rattle.asl_rules.specs.expressions.Exprs.{FoundField, name_of_standing, width_of, number_of, values_given, names_given, construct_rule}
use Rattle.asl_laws.proofs.basics.Lists.{AllOf}
use Rattle.asl_laws.proofs.spans.OtherCodes.{Other}
use Rattle.asl_laws.proofs.spans.Standing.{At, Answers, Stands, then_with, then_stands, bound, next, refused, found_at, steps, typed_there, width_there, ExprStands, SliceStands, GivenStands, PatternStands, PartStands, EndsStand, BitfieldStands, TypeStands, NamesStand}

module _ (t : Tests) (P : Fault → Type 0) where
  -- ---- operators

  pub unary_stands : (span : Span) (o : UnaryOperator) (S : Ty) → At P span → Stands P (unary_rule span o S)
  unary_stands span unary.Negate S p = search steps
  unary_stands span o S p = search steps

  pub binary_stands : (span : Span) (o : BinaryOperator) (S T : Ty) → At P span → Stands P (binary_rule t span o S T)
  binary_stands span binary.LogicalAnd S T p = search steps
  binary_stands span o S T p = search steps depth 10

  -- ---- names and widths

  pub name_stands : (span : Span) (name : List ℕ) (o : Option Standing) (G : Scope) → At P span → Stands P (name_of_standing span name o G)
  name_stands span name (Some (Stored s)) G p = search steps
  name_stands span name (Some (Label T x)) G p = search steps
  name_stands span name o G p = search steps

  known_width : (span : Span) (o : Option Value) → At P span → Stands P (width_of_known span o)
  known_width span (Some (int z)) p = search steps
  known_width span o p = search steps

  counted_width : (span : Span) (c : Option Counted) (o : Option Value) → At P span → Stands P (width_of_counted span c o)
  counted_width span None o p = known_width span o p
  counted_width span (Some c) o p = tt

  pub standing_width : (span : Span) (o : Option Standing) → At P span → Stands P (width_of_standing span o)
  standing_width span (Some (Stored s)) p = search (steps, counted_width)
  standing_width span o p = search steps

  pub combined_width : (span : Span) (o : Combination) (p q : Polynomial) → At P span → Stands P (width_combined span o p q)
  combined_width span Sum p q h = search steps
  combined_width span Difference p q h = search steps
  combined_width span Product p q h = search steps

  pub divided_width : (span : Span) (p : Polynomial) (k : ℕ) → At P span → Stands P (width_divided span p k)
  divided_width span p k h = search steps

  known_number : (span : Span) (o : Option Value) → At P span → Stands P (number_of_known span o)
  known_number span (Some (int z)) p = tt
  known_number span o p = search steps

  counted_number : (span : Span) (c : Option Counted) (o : Option Value) → At P span → Stands P (number_of_counted span c o)
  counted_number span None o p = known_number span o p
  counted_number span (Some c) o p = search steps

  pub standing_number : (span : Span) (o : Option Standing) → At P span → Stands P (number_of_standing span o)
  standing_number span (Some (Stored s)) p = search (steps, counted_number)
  standing_number span o p = search steps

  pub combined_number : (span : Span) (o : Combination) (a b : ℤ) → At P span → Stands P (number_combined span o a b)
  combined_number span Sum a b p = search steps
  combined_number span Difference a b p = search steps
  combined_number span Product a b p = search steps

  pub divided_number : (span : Span) (a : ℤ) (k : ℕ) → At P span → Stands P (number_divided span a k)
  divided_number span a k p = search steps

  -- what joins two expressions
  pub two_widths : (span : Span) (j : Joining) (a b : Found) (G : Scope) → At P span → ExprStands P a → ExprStands P b →
      Stands P (width_of span (reading_of_two j a b) G)
  two_widths span (Combines o) a b G p h k =
      bound P (a.width G) _ (h.width_at G) (λ v. bound P (b.width G) _ (k.width_at G)
      (λ w. bound P (width_combined span o v.poly w.poly) _ (combined_width span o v.poly w.poly p) (λ r. tt)))
  two_widths span Divides a b G p h k =
      bound P (a.width G) _ (h.width_at G) (λ v. bound P (found_or b.divisor T19 span) _ (found_at P b.divisor T19 span p tt)
      (λ n. bound P (width_divided span v.poly n) _ (divided_width span v.poly n p) (λ r. tt)))
  two_widths span JoinsNothing a b G p h k = refused P T19 span p tt

  pub two_numbers : (span : Span) (j : Joining) (a b : Found) (G : Scope) → At P span → ExprStands P a → ExprStands P b →
      Stands P (number_of span (reading_of_two j a b) G)
  two_numbers span (Combines o) a b G p h k =
      bound P (a.number G) _ (h.number_at G) (λ v. bound P (b.number G) _ (k.number_at G)
      (λ w. bound P (number_combined span o v.number w.number) _ (combined_number span o v.number w.number p) (λ r. tt)))
  two_numbers span Divides a b G p h k =
      bound P (a.number G) _ (h.number_at G) (λ v. bound P (found_or b.divisor T19 span) _ (found_at P b.divisor T19 span p tt)
      (λ n. bound P (number_divided span v.number n) _ (divided_number span v.number n p) (λ r. tt)))
  two_numbers span JoinsNothing a b G p h k = refused P T19 span p tt

  -- ---- several expressions

  -- operands stand at such spans
  abbrev pub OperandsStand : List Operand → Type 0
  OperandsStand [] = Unit {0}
  OperandsStand (o ∷ os) = At P o.span × OperandsStand os

  operands_stand : (es : List Found) (G : Scope) → AllOf (ExprStands P) es → Answers P OperandsStand (operands es G)
  operands_stand [] G h = tt
  operands_stand (e ∷ es) G h =
      then_with P (λ S. Unit {0}) OperandsStand (e.typed G) _ (typed_there P e G h.0) (λ S u.
      then_with P OperandsStand OperandsStand (operands es G) _ (operands_stand es G h.1) (λ os k. (h.0.at, k)))

  pub operands_there : {B : Type 0} (es : List Found) (G : Scope) (f : List Operand → Result B Fault) → AllOf (ExprStands P) es → ((os : List Operand) → OperandsStand os → Stands P (f os)) → Stands P (operands es G >>= f)
  operands_there es G f h k = then_stands P OperandsStand (operands es G) f (operands_stand es G h) k

  -- ---- constructions

  values_stand : (gs : List FoundField) → AllOf (GivenStands P) gs → AllOf (ExprStands P) (values_given gs)
  values_stand [] h = tt
  values_stand (g ∷ gs) h = (h.0.value_at, values_stand gs h.1)

  names_stand : (gs : List FoundField) → AllOf (GivenStands P) gs → NamesStand P (names_given gs)
  names_stand [] h = tt
  names_stand (g ∷ gs) h = (h.0.name_at, names_stand gs h.1)

  fit_stands : (os : List Operand) (Ts : List Ty) → OperandsStand os → Stands P (all_fit t os Ts)
  fit_stands (o ∷ os) (T ∷ Ts) h = search (steps, fit_stands os Ts h.1)
  fit_stands (o ∷ os) [] h = tt
  fit_stands [] Ts h = tt

  once_stands : (is : List Ident) (before : List (List ℕ)) (fs : Fields) → NamesStand P is → Stands P (given_once is before fs)
  once_stands [] before fs h = tt
  once_stands (i ∷ is) before fs h = search (steps, once_stands is (before ++ i.text ∷ []) fs h.1)

  constructed_stands : (i : Ident) (o : Option Ty) → At P i.span → Stands P (constructed i o)
  constructed_stands i None p = search steps
  constructed_stands i (Some T) p = search steps

  pub construct_stands : (span : Span) (i : Ident) (gs : List FoundField) (G : Scope) → At P span → At P i.span → AllOf (GivenStands P) gs → Stands P (construct_rule t span i gs G)
  construct_stands span i gs G p q h = operands_there (values_given gs) G _ (values_stand gs h) (λ os k. search (steps, constructed_stands, once_stands, fit_stands, names_stand) depth 20)

  pub bitfields_stand : (is : List Ident) (view : View) → NamesStand P is → Stands P (bitfields_in is view)
  bitfields_stand [] view h = tt
  bitfields_stand (i ∷ is) view h = search (steps, bitfields_stand is view h.1)

  -- ---- slices

  pub slices_stand : (ss : List FoundSlice) (G : Scope) → AllOf (SliceStands P) ss → Stands P (all_operands ss G)
  slices_stand [] G h = tt
  slices_stand (s ∷ ss) G h = search (steps, h.0.operands_at G, slices_stand ss G h.1)

  pub adds_stand : (ss : List FoundSlice) (x : Total) (G : Scope) → AllOf (SliceStands P) ss → Stands P (all_add ss x G)
  adds_stand [] x G h = tt
  adds_stand (s ∷ ss) x G h = bound P (s.adds x G) (λ y. all_add ss y G) (h.0.adds_at x G) (λ y. adds_stand ss y G h.1)

  -- ---- calls

  abbrev pub GivenWidths : List Given → Type 0
  GivenWidths [] = Unit {0}
  GivenWidths (g ∷ gs) = At P g.span × GivenWidths gs

  abbrev pub ReplacingStands : Replacing → Type 0
  ReplacingStands r = GivenWidths r.given

  given_stand : (es : List Found) (G : Scope) → AllOf (ExprStands P) es → Answers P ReplacingStands (widths_given es G)
  given_stand [] G h = tt
  given_stand (e ∷ es) G h =
      then_with P (λ w. Unit {0}) ReplacingStands (e.width G) _ (width_there P e G h.0) (λ w u.
      then_with P ReplacingStands ReplacingStands (widths_given es G) _ (given_stand es G h.1) (λ r k. (h.0.at, k)))

  given_there : {B : Type 0} (es : List Found) (G : Scope) (f : Replacing → Result B Fault) → AllOf (ExprStands P) es → ((r : Replacing) → Stands P (f r)) → Stands P (widths_given es G >>= f)
  given_there es G f h k = then_stands P ReplacingStands (widths_given es G) f (given_stand es G h) (λ r u. k r)

  -- what an option holds, where it holds something
  abbrev pub Holding : {A : Type 0} → (A → Type 0) → Option A → Type 0
  Holding Q None = Unit {0}
  Holding Q (Some x) = Q x

  either_holds : {A : Type 0} (Q : A → Type 0) (b : Bool) (o q : Option A) → Holding Q o → Holding Q q → Holding Q (if b then o else q)
  either_holds Q true o q h k = h
  either_holds Q false o q h k = k

  found_with : {A : Type 0} (Q : A → Type 0) (o : Option A) (code : StaticCode) (span : Span) → Holding Q o → At P span → Other code → Answers P Q (found_or o code span)
  found_with Q None code span h p c = refused P code span p c
  found_with Q (Some x) code span h p c = h

  giving_stands : (atom n : ℕ) (Ts : Parts) (os : List Operand) → OperandsStand os → Holding (λ (g : Giving). At P g.given.span) (given_by_argument atom n Ts os)
  giving_stands atom n (part T Ts) (o ∷ os) h = either_holds (λ (g : Giving). At P g.given.span) (is_width_alone atom T) _ (given_by_argument atom (suc n) Ts os) h.0 (giving_stands atom (suc n) Ts os h.1)
  giving_stands atom n (part T Ts) [] h = tt
  giving_stands atom n no_part os h = tt

  omitted_stand : (span : Span) (ps : List Param) (Ts : Parts) (os : List Operand) → At P span → OperandsStand os → Answers P ReplacingStands (widths_omitted span ps Ts os)
  omitted_stand span [] Ts os p h = tt
  omitted_stand span (q ∷ qs) Ts os p h =
      then_with P (λ (g : Giving). At P g.given.span) ReplacingStands (found_or (given_by_argument q.atom 0 Ts os) T11 span) _ (found_with (λ (g : Giving). At P g.given.span) (given_by_argument q.atom 0 Ts os) T11 span (giving_stands q.atom 0 Ts os h) p tt) (λ g k.
      then_with P ReplacingStands ReplacingStands (widths_omitted span qs Ts os) _ (omitted_stand span qs Ts os p h) (λ r l. (k, l)))

  after_need : {B : Type 0} (Q : B → Type 0) (b : Bool) (code : StaticCode) (span : Span) (r : Result B Fault) → At P span → Other code → Answers P Q r → Answers P Q (need b code span >> r)
  after_need Q true code span r p c h = h
  after_need Q false code span r p c h = refused P code span p c

  replacing_stands : (span : Span) (f : Signature) (es : List Found) (os : List Operand) (G : Scope) → At P span → AllOf (ExprStands P) es → OperandsStand os → Answers P ReplacingStands (widths_rule span f es os G)
  replacing_stands span f [] os G p h k = omitted_stand span f.params f.formals os p k
  replacing_stands span f (e ∷ es) os G p h k = after_need ReplacingStands _ T11 span (widths_given (e ∷ es) G) p tt (given_stand (e ∷ es) G h)

  replacing_there : {B : Type 0} (span : Span) (sig : Signature) (es : List Found) (os : List Operand) (G : Scope) (f : Replacing → Result B Fault) → At P span → AllOf (ExprStands P) es → OperandsStand os → ((r : Replacing) → ReplacingStands r → Stands P (f r)) → Stands P (widths_rule span sig es os G >>= f)
  replacing_there span sig es os G f p h k l = then_stands P ReplacingStands (widths_rule span sig es os G) f (replacing_stands span sig es os G p h k) l

  one_param : (span : Span) (by : Widths) (T : Option Ty) (g : Given) → At P span → At P g.span → Stands P (fits_written t span by T g)
  one_param span by None g p h = tt
  one_param span by (Some T) g p h = search steps

  params_stand : (span : Span) (by : Widths) (ps : List Param) (gs : List Given) → At P span → GivenWidths gs → Stands P (params_fit t span by ps gs)
  params_stand span by (q ∷ qs) (g ∷ gs) p h = next P (fits_written t span by q.ty g) (params_fit t span by qs gs) (one_param span by q.ty g p h.0) (params_stand span by qs gs p h.1)
  params_stand span by (q ∷ qs) [] p h = tt
  params_stand span by [] gs p h = tt

  arguments_stand : (span : Span) (by : Widths) (Ts : Parts) (os : List Operand) → At P span → OperandsStand os → Stands P (arguments_fit t span by Ts os)
  arguments_stand span by (part T Ts) (o ∷ os) p h = search (steps, arguments_stand span by Ts os p h.1)
  arguments_stand span by (part T Ts) [] p h = tt
  arguments_stand span by no_part os p h = tt

  function_stands : (span : Span) (i : Ident) (ps : List Found) (os : List Operand) (G : Scope) (o : Option Routine) → At P span → AllOf (ExprStands P) ps → OperandsStand os → Stands P (function_of t span i ps os G o)
  function_stands span i ps os G (Some r) p h k = search (steps, given_there) depth 20
  function_stands span i ps os G None p h k = search (steps, replacing_there, params_stand, arguments_stand) depth 20

  -- the arguments, and the name of a subprogram
  begun_stands : (i : Ident) (es : List Found) (G : Scope) → At P i.span → AllOf (ExprStands P) es → Answers P OperandsStand (call_begun i es G)
  begun_stands i es G p h = then_with P OperandsStand OperandsStand (operands es G) _ (operands_stand es G h) (λ os k. after_need OperandsStand _ T02 i.span (Ok os) p tt k)

  begun_there : {B : Type 0} (i : Ident) (es : List Found) (G : Scope) (f : List Operand → Result B Fault) → At P i.span → AllOf (ExprStands P) es → ((os : List Operand) → OperandsStand os → Stands P (f os)) → Stands P (call_begun i es G >>= f)
  begun_there i es G f p h k = then_stands P OperandsStand (call_begun i es G) f (begun_stands i es G p h) k

  pub call_stands : (span : Span) (i : Ident) (ps es : List Found) (G : Scope) → At P span → At P i.span → AllOf (ExprStands P) ps → AllOf (ExprStands P) es → Stands P (function_rule t span i ps es G)
  call_stands span i ps es G p q h k = begun_there i es G _ q k (λ os l. function_stands span i ps os G (routine_named i.text) p h l)

  -- a call of a procedure
  procedure_stands : (span : Span) (i : Ident) (ps : List Found) (os : List Operand) (G : Scope) (o : Option Routine) → At P span → AllOf (ExprStands P) ps → OperandsStand os → Stands P (procedure_of t span i ps os G o)
  procedure_stands span i ps os G (Some r) p h k = search steps depth 10
  procedure_stands span i ps os G None p h k = search (steps, replacing_there, params_stand, arguments_stand) depth 20

  pub procedure_call_stands : (span : Span) (i : Ident) (ps es : List Found) (G : Scope) → At P span → At P i.span → AllOf (ExprStands P) ps → AllOf (ExprStands P) es → Stands P (procedure_rule t span i ps es G)
  procedure_call_stands span i ps es G p q h k = begun_there i es G _ q k (λ os l. procedure_stands span i ps os G (routine_named i.text) p h l)

  -- ---- written types

  -- an end stands where its expression does
  end_stands : (e : Found) (G : Scope) → ExprStands P e → Answers P (λ (x : WrittenEnd). At P x.span) (end_rule e G)
  end_stands e G h = then_with P (λ w. Unit {0}) (λ (x : WrittenEnd). At P x.span) (e.width G) _ (width_there P e G h) (λ w u. h.at)

  pub one_bit_stands : (e : Found) (i : Ident) (G : Scope) → ExprStands P e → Answers P (EndsStand P) (one_bit_rule e i G)
  one_bit_stands e i G h = then_with P (λ (x : WrittenEnd). At P x.span) (EndsStand P) (end_rule e G) _ (end_stands e G h) (λ x k. (k, k))

  pub bit_range_stands : (a b : Found) (i : Ident) (G : Scope) → ExprStands P a → ExprStands P b → Answers P (EndsStand P) (bit_range_rule a b i G)
  bit_range_stands a b i G h j =
      then_with P (λ (x : WrittenEnd). At P x.span) (EndsStand P) (end_rule a G) _ (end_stands a G h) (λ x k.
      then_with P (λ (x : WrittenEnd). At P x.span) (EndsStand P) (end_rule b G) _ (end_stands b G j) (λ y l. (k, l)))

  pub parts_stand : (ps : List FoundPart) (G : Scope) → AllOf (PartStands P) ps → Stands P (all_parts ps G)
  parts_stand [] G h = tt
  parts_stand (p ∷ ps) G h = search (steps, h.0.part_at, parts_stand ps G h.1)

  abbrev pub FieldsStand : List WrittenField → Type 0
  FieldsStand [] = Unit {0}
  FieldsStand (f ∷ fs) = EndsStand P f × FieldsStand fs

  fields_stand : (fs : List FoundBitfield) (G : Scope) → AllOf (BitfieldStands P) fs → Answers P FieldsStand (all_fields fs G)
  fields_stand [] G h = tt
  fields_stand (f ∷ fs) G h =
      then_with P (EndsStand P) FieldsStand (f G) _ (h.0.bitfield_at G) (λ x k.
      then_with P FieldsStand FieldsStand (all_fields fs G) _ (fields_stand fs G h.1) (λ xs l. (k, l)))

  pub fields_there : {B : Type 0} (fs : List FoundBitfield) (G : Scope) (f : List WrittenField → Result B Fault) → AllOf (BitfieldStands P) fs → ((xs : List WrittenField) → FieldsStand xs → Stands P (f xs)) → Stands P (all_fields fs G >>= f)
  fields_there fs G f h k = then_stands P FieldsStand (all_fields fs G) f (fields_stand fs G h) k

  numbered_stands : (fs : List WrittenField) → FieldsStand fs → Stands P (all_numbered fs)
  numbered_stands [] h = tt
  numbered_stands (f ∷ fs) h = search (steps, numbered_stands fs h.1) depth 10

  placed_stands : (span : Span) (w : ℤ) (fs : List Numbered) → At P span → Stands P (all_placed span w fs)
  placed_stands span w [] p = tt
  placed_stands span w (f ∷ fs) p = search (steps, placed_stands span w fs p)

  pub view_stands : (span : Span) (w : Polynomial) (fs : List WrittenField) → At P span → FieldsStand fs → Stands P (view_rule span w fs)
  view_stands span w [] p h = tt
  view_stands span w (f ∷ fs) p h = search (steps, numbered_stands, placed_stands) depth 10

  pub types_stand : (outside : Bool) (ts : List FoundType) (G : Scope) → AllOf (TypeStands P) ts → Stands P (types_in_order outside ts G)
  types_stand outside [] G h = tt
  types_stand outside (w ∷ ws) G h = search (steps, types_stand outside ws G h.1)

  pub length_stands : (span : Span) (z : ℤ) → At P span → Stands P (length_of span z)
  length_stands span (pos n) p = search steps
  length_stands span (negsuc n) p = search steps

  -- ---- patterns

  pub all_patterns : (ps : List FoundPattern) (T : Ty) (G : Scope) → AllOf (PatternStands P) ps → Stands P (all_match ps T G)
  all_patterns [] T G h = tt
  all_patterns (p ∷ ps) T G h = search (steps, h.0.matched_at, all_patterns ps T G h.1)

  pub part_patterns : (ps : List FoundPattern) (Ts : Parts) (G : Scope) → AllOf (PatternStands P) ps → Stands P (parts_match ps Ts G)
  part_patterns (p ∷ ps) (part T Ts) G h = search (steps, h.0.matched_at, part_patterns ps Ts G h.1)
  part_patterns (p ∷ ps) no_part G h = tt
  part_patterns [] Ts G h = tt

-- beside the steps, all that these rules are made of
pub ruleset rows =
    (unary_stands, binary_stands, name_stands, standing_width, combined_width, divided_width, standing_number, combined_number, divided_number, two_widths, two_numbers, operands_there, construct_stands, bitfields_stand, slices_stand, adds_stand, call_stands, one_bit_stands, bit_range_stands, parts_stand, fields_there, view_stands, types_stand, length_stands, all_patterns, part_patterns)
