-- What is said of the fault of an answer, from one step to the next: it is whatever holds of faults at these spans, of any code of rules but T04, which is that
-- of evaluations alone. So one table says where faults stand, that they have codes of rules, and that no rule but those on evaluations has the code T04.
use Rattle.std.proofs.Common.{◌≡◌, refl}
use Rattle.std.specs.Prelude.{Bool, true, false, if◌then◌else◌, List, [], ◌∷◌, Option, Some, None, Result, Ok, Err}
use Rattle.asl_syn.specs.declared.token.Span.{Span}
use Rattle.asl_syn.specs.declared.code.Fault.{Fault}
use Rattle.asl_syn.specs.declared.code.StaticCode.{StaticCode}
use Rattle.asl_syn.specs.declared.code.StaticCode.TheVariants.{S03}
use Rattle.asl_syn.specs.declared.tree.Ident.{Ident}
use Rattle.asl_rules.specs.Faults.{◌>>=◌, ◌>>◌, need, found_or, fitted, fault_of}
use Rattle.asl_rules.specs.types.Types.{Ty}
use Rattle.asl_rules.specs.declarations.Scopes.{Scope}
use Rattle.asl_rules.specs.types.Widths.{Total}
use Rattle.asl_rules.specs.expressions.Typing.{Found}
use Rattle.asl_rules.specs.expressions.Slicing.{FoundSlice}
use Rattle.asl_rules.specs.types.Writing.{WrittenField, FoundPart, FoundBitfield, FoundType}
use Rattle.asl_rules.specs.expressions.Patterns.{FoundPattern}
use Rattle.asl_rules.specs.expressions.Exprs.{FoundField}
use Rattle.asl_rules.specs.Tests.{Tests}
use Rattle.asl_rules.specs.values.Vectors.{literal_of}
use Rattle.asl_laws.specs.Spans.{Mark, place, literal, Each, of_names}
use Rattle.asl_laws.proofs.spans.OtherCodes.{Other, GivenOther, misfit_other, apart_other}

-- what is said holds of this fault
pub record Has (P : Fault → Type 0) (f : Fault) : Type 0 where
  pub has : P f

-- it holds of faults at this span, whichever code of rules they have but T04
pub record At (P : Fault → Type 0) (span : Span) : Type 0 where
  pub fault_has : (code : StaticCode) → Other code → P (fault_of code span)

module _ (P : Fault → Type 0) where
  -- a value of which this holds, or a fault of which it is said
  abbrev pub Answers : {A : Type 0} → (A → Type 0) → Result A Fault → Type 0
  Answers Q (Ok x) = Q x
  Answers Q (Err f) = Has P f

  -- it is said of the fault, if this is one
  abbrev pub Stands : {A : Type 0} → Result A Fault → Type 0
  Stands (Ok x) = Unit {0}
  Stands (Err f) = Has P f

  -- ---- steps

  pub then_with : {A B : Type 0} (Q : A → Type 0) (R : B → Type 0) (r : Result A Fault) (f : A → Result B Fault) → Answers Q r → ((x : A) → Q x → Answers R (f x)) → Answers R (r >>= f)
  then_with Q R (Ok x) f h k = k x h
  then_with Q R (Err e) f h k = h

  pub then_stands : {A B : Type 0} (Q : A → Type 0) (r : Result A Fault) (f : A → Result B Fault) → Answers Q r → ((x : A) → Q x → Stands (f x)) → Stands (r >>= f)
  then_stands Q (Ok x) f h k = k x h
  then_stands Q (Err e) f h k = h

  pub bound : {A B : Type 0} (r : Result A Fault) (f : A → Result B Fault) → Stands r → ((x : A) → Stands (f x)) → Stands (r >>= f)
  bound (Ok x) f h k = k x
  bound (Err e) f h k = h

  pub next : {B : Type 0} (r : Result (Unit {0}) Fault) (s : Result B Fault) → Stands r → Stands s → Stands (r >> s)
  next (Ok x) s h k = k
  next (Err e) s h k = h

  -- steps that know what was given before

  pub bound_by : {A B : Type 0} (r : Result A Fault) (f : A → Result B Fault) → Stands r → ((x : A) → r ≡ Ok x → Stands (f x)) → Stands (r >>= f)
  bound_by (Ok x) f h k = k x refl
  bound_by (Err e) f h k = h

  pub next_by : {B : Type 0} (r : Result (Unit {0}) Fault) (s : Result B Fault) → Stands r → (r ≡ Ok tt → Stands s) → Stands (r >> s)
  next_by (Ok x) s h k = k refl
  next_by (Err e) s h k = h

  pub with_by : {A B : Type 0} (Q : B → Type 0) (r : Result A Fault) (f : A → Result B Fault) → Stands r → ((x : A) → r ≡ Ok x → Answers Q (f x)) → Answers Q (r >>= f)
  with_by Q (Ok x) f h k = k x refl
  with_by Q (Err e) f h k = h

  pub next_with : {B : Type 0} (Q : B → Type 0) (r : Result (Unit {0}) Fault) (s : Result B Fault) → Stands r → Answers Q s → Answers Q (r >> s)
  next_with Q (Ok x) s h k = k
  next_with Q (Err e) s h k = h

  -- where conditions fail

  pub refused : (code : StaticCode) (span : Span) → At P span → Other code → Has P (fault_of code span)
  refused code span p o = record { has = p.fault_has code o }

  pub needed : (b : Bool) (code : StaticCode) (span : Span) → At P span → Other code → Stands (need b code span)
  needed true code span p o = tt
  needed false code span p o = refused code span p o

  pub found_at : {A : Type 0} (o : Option A) (code : StaticCode) (span : Span) → At P span → Other code → Stands (found_or o code span)
  found_at None code span p o = refused code span p o
  found_at (Some x) code span p o = tt

  pub fitted_at : (o : Option StaticCode) (span : Span) → At P span → GivenOther o → Stands (fitted o span)
  fitted_at None span p h = tt
  fitted_at (Some code) span p h = refused code span p h

  pub either : {A : Type 0} (b : Bool) (r s : Result A Fault) → Stands r → Stands s → Stands (if b then r else s)
  either true r s h k = h
  either false r s h k = k

  -- ---- what is found at a part

  pub record ExprStands (e : Found) : Type 0 where
    pub at : At P e.span
    pub typed_at : (G : Scope) → Stands (e.typed G)
    pub width_at : (G : Scope) → Stands (e.width G)
    pub number_at : (G : Scope) → Stands (e.number G)

  pub record SliceStands (s : FoundSlice) : Type 0 where
    pub operands_at : (G : Scope) → Stands (s.operands G)
    pub adds_at : (x : Total) (G : Scope) → Stands (s.adds x G)

  pub record GivenStands (g : FoundField) : Type 0 where
    pub name_at : At P g.name.span
    pub value_at : ExprStands g.value

  pub record PatternStands (p : FoundPattern) : Type 0 where
    pub matched_at : (T : Ty) (G : Scope) → Stands (p T G)

  pub record PartStands (p : FoundPart) : Type 0 where
    pub part_at : (G : Scope) → Stands (p G)

  -- the ends of a bitfield stand at such spans
  abbrev pub EndsStand : WrittenField → Type 0
  EndsStand f = At P f.high.span × At P f.low.span

  pub record BitfieldStands (f : FoundBitfield) : Type 0 where
    pub bitfield_at : (G : Scope) → Answers EndsStand (f G)

  pub record TypeStands (w : FoundType) : Type 0 where
    pub at : At P w.span
    pub written_at : (outside : Bool) (G : Scope) → Stands (w.ty outside G)

  abbrev pub NamesStand : List Ident → Type 0
  NamesStand [] = Unit {0}
  NamesStand (i ∷ is) = At P i.span × NamesStand is

  -- ---- what stands in a tree

  -- faults may stand at each span; where the text of a literal is none, at that, too
  abbrev pub Marked : Tests → Mark → Type 0
  Marked t (place span) = At P span
  Marked t (literal span text) = At P span × Stands (found_or (literal_of t.limit text) S03 span)

  pub names_there : (t : Tests) (is : List Ident) → Each (Marked t) (of_names is) → NamesStand is
  names_there t [] h = tt
  names_there t (i ∷ is) h = (h.0, names_there t is h.1)

  -- ---- the steps of a part

  pub place_there : (e : Found) → ExprStands e → At P e.span
  place_there e h = h.at

  pub typed_there : (e : Found) (G : Scope) → ExprStands e → Stands (e.typed G)
  typed_there e G h = h.typed_at G

  pub width_there : (e : Found) (G : Scope) → ExprStands e → Stands (e.width G)
  width_there e G h = h.width_at G

  pub number_there : (e : Found) (G : Scope) → ExprStands e → Stands (e.number G)
  number_there e G h = h.number_at G

  pub written_there : (w : FoundType) (outside : Bool) (G : Scope) → TypeStands w → Stands (w.ty outside G)
  written_there w outside G h = h.written_at outside G

-- steps, and where they fail; a search by these goes through the rule of a form
pub ruleset steps = (bound, next, refused, needed, found_at, fitted_at, either, misfit_other, apart_other, place_there, typed_there, width_there, number_there, written_there)
