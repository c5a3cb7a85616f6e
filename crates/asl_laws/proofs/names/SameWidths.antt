-- What is found in a width, and at written types, depends on the names that are used in them alone, and of a call in them on nothing: it is
-- a fault of its own.
use Rattle.std.proofs.Common.{◌≡◌, Bool, List, [], ◌∷◌, map, Ok, refl}
use Rattle.std.specs.Prelude.{Result}
use Rattle.asl_syn.specs.declared.token.Span.{Span}
use Rattle.asl_syn.specs.declared.code.Fault.{Fault}
use Rattle.asl_syn.specs.declared.code.StaticCode.TheVariants.{T02}
use Rattle.asl_syn.specs.declared.tree.UnaryOperator.{UnaryOperator}
use Rattle.asl_syn.specs.declared.tree.UnaryOperator.TheVariants as unary
use Rattle.asl_syn.specs.declared.tree.TypeExpr.{TypeExpr}
use Rattle.asl_syn.specs.declared.tree.Bitfield.TheOpen as ex
use Rattle.asl_syn.specs.declared.tree.Bitfield.TheFolds.{map-Bitfield, map-ConstraintPart, map-Expr, map-TypeExpr}
use Rattle.asl_rules.specs.declared.effect.Effect.{Effect}
use Rattle.asl_rules.specs.Faults.{◌>>=◌, found_or}
use Rattle.asl_rules.specs.Tests.{Tests}
use Rattle.asl_rules.specs.runs.Trees as tree
use Rattle.asl_rules.specs.declarations.Scopes.{Scope, Entry, Signature, standing_of, storage_in, type_in}
use Rattle.asl_rules.specs.declarations.Layouts.{slot_of, layout_of}
use Rattle.asl_rules.specs.types.Widths.{width_of_standing, number_of_standing, storage_has_atom}
use Rattle.asl_rules.specs.expressions.Typing.{Found, Width, Number, width_as, number_as, width_note}
use Rattle.asl_rules.specs.expressions.Slicing.{FoundSlice}
use Rattle.asl_rules.specs.types.Writing.{FoundPart, FoundBitfield, FoundType, all_parts, all_fields, types_in_order, integer_written}
use Rattle.asl_rules.specs.types.Writing.{bits_written, tuple_written, named_written}
use Rattle.asl_rules.specs.expressions.Patterns.{FoundPattern}
use Rattle.asl_rules.specs.expressions.Exprs.{FoundField, expr_rule, given_rule, slice_rule, part_rule, bitfield_rule, type_rule}
use Rattle.asl_rules.specs.expressions.Exprs.{pattern_rule, found_type, width_of, number_of, names_atom}
use Rattle.asl_rules.specs.declared.joining.Joining.{Joining}
use Rattle.asl_rules.specs.declared.joining.Joining.TheVariants.{Combines, Divides, JoinsNothing}
use Rattle.asl_rules.specs.types.Arithmetic.{joining, reading_of_two}
use Rattle.asl_rules.specs.declarations.UsedNames.{Use, of_value, of_subprogram, of_type, Each, type_uses}
use Rattle.asl_laws.proofs.names.ByUses as by_uses
use Rattle.asl_laws.proofs.names.ByUses.{OwnExpr, OwnType}
use Rattle.asl_laws.proofs.names.SameExprs.{scope_at, part_in, bitfield_in, written_in}

-- a name of a value or of a type stands for the same, and is held in the same place; of a call nothing is asked
abbrev pub SameInWidths : List Entry → List Entry → Use → Type 0
SameInWidths A B (of_value span name) = (standing_of name A ≡ standing_of name B) ×
    (slot_of name (layout_of A) ≡ slot_of name (layout_of B))
SameInWidths A B (of_subprogram span name) = Unit {0}
SameInWidths A B (of_type name) = standing_of name A ≡ standing_of name B

-- what an expression is in a width
pub record InWidth : Type 0 where
  pub width : Scope → Result Width Fault
  pub number : Scope → Result Number Fault
  pub has_atom : Scope → Bool

abbrev pub width_in : List Entry → List Signature → Found → InWidth
width_in X ss f = record {
  width = λ G. f.width (scope_at X ss G.class);
  number = λ G. f.number (scope_at X ss G.class);
  has_atom = λ G. f.has_atom (scope_at X ss G.class);
}

-- an expression that is this in widths
abbrev pub as_found : Found → InWidth → Found
as_found f w = record f { width = w.width; number = w.number; has_atom = w.has_atom }

module _ (t : Tests) (A B : List Entry) (ss rs : List Signature) where
  abbrev pub WidthSame : Found → Type 0
  WidthSame f = width_in A ss f ≡ width_in B rs f

  abbrev PartSame : FoundPart → Type 0
  PartSame f = part_in A ss f ≡ part_in B rs f

  abbrev BitfieldSame : FoundBitfield → Type 0
  BitfieldSame f = bitfield_in A ss f ≡ bitfield_in B rs f

  abbrev pub TypeSame : FoundType → Type 0
  TypeSame f = written_in A ss f ≡ written_in B rs f

  abbrev Any : {X : Type 0} → X → Type 0
  Any x = Unit {0}

  abbrev BB : Type 0
  BB = (x : FoundBitfield) × BitfieldSame x

  abbrev CC : Type 0
  CC = (x : FoundPart) × PartSame x

  abbrev EE : Type 0
  EE = (x : Found) × WidthSame x

  abbrev FF : Type 0
  FF = (x : FoundField) × Any x

  abbrev PP : Type 0
  PP = (x : FoundPattern) × Any x

  abbrev SS : Type 0
  SS = (x : FoundSlice) × Any x

  abbrev TT : Type 0
  TT = (x : FoundType) × TypeSame x

  abbrev first : Effect → Scope
  first k = scope_at A ss k

  abbrev second : Effect → Scope
  second k = scope_at B rs k

  ranges_same : (ps : List CC) (k : Effect) → all_parts (map (λ e. e.0) ps) (first k) ≡ all_parts (map (λ e. e.0) ps) (second k)
  ranges_same [] k = refl
  ranges_same (p ∷ ps) k = λ i. p.1 i (first k) >>= λ q. ranges_same ps k i >>= λ qs. Ok (q ∷ qs)

  bitfields_same : (fs : List BB) (k : Effect) → all_fields (map (λ e. e.0) fs) (first k) ≡ all_fields (map (λ e. e.0) fs) (second k)
  bitfields_same [] k = refl
  bitfields_same (f ∷ fs) k = λ i. f.1 i (first k) >>= λ x. bitfields_same fs k i >>= λ xs. Ok (x ∷ xs)

  types_same : (outside : Bool) (ws : List TT) (k : Effect) →
      types_in_order outside (map (λ e. e.0) ws) (first k) ≡ types_in_order outside (map (λ e. e.0) ws) (second k)
  types_same outside [] k = refl
  types_same outside (w ∷ ws) k = λ i. (w.1 i).ty outside (first k) >>= λ W. types_same outside ws k i >>= λ Ws. Ok (W ∷ Ws)

  bitfield_step : (y : ex.Bitfield-F BB CC EE FF PP SS TT) →
      BitfieldSame (bitfield_rule
      (map-Bitfield BB CC EE FF PP SS TT FoundBitfield FoundPart Found FoundField FoundPattern FoundSlice FoundType (λ x. x.0) (λ x. x.0)
      (λ x. x.0) (λ x. x.0) (λ x. x.0) (λ x. x.0) (λ x. x.0) y))
  bitfield_step (ex.OneBit e n) = λ i. bitfield_in A ss (bitfield_rule (ex.OneBit (as_found e.0 (e.1 i)) n))
  bitfield_step (ex.BitRange a b n) = λ i. bitfield_in A ss (bitfield_rule (ex.BitRange (as_found a.0 (a.1 i)) (as_found b.0 (b.1 i)) n))

  part_step : (y : ex.ConstraintPart-F BB CC EE FF PP SS TT) →
      PartSame (part_rule (map-ConstraintPart BB CC EE FF PP SS TT FoundBitfield FoundPart Found FoundField FoundPattern FoundSlice
      FoundType (λ x. x.0) (λ x. x.0) (λ x. x.0) (λ x. x.0) (λ x. x.0) (λ x. x.0) (λ x. x.0) y))
  part_step (ex.Only e) = λ i. part_in A ss (part_rule (ex.Only (as_found e.0 (e.1 i))))
  part_step (ex.FromTo a b) = λ i. part_in A ss (part_rule (ex.FromTo (as_found a.0 (a.1 i)) (as_found b.0 (b.1 i))))

  type_step : (y : ex.TypeExpr-F BB CC EE FF PP SS TT) → OwnType (SameInWidths A B) y →
      TypeSame (type_rule t (map-TypeExpr BB CC EE FF PP SS TT FoundBitfield FoundPart Found FoundField FoundPattern FoundSlice FoundType
      (λ x. x.0) (λ x. x.0) (λ x. x.0) (λ x. x.0) (λ x. x.0) (λ x. x.0) (λ x. x.0) y))
  type_step (ex.IntegerType span ps) own =
      λ i. record { span = span; ty = λ o G. ranges_same ps G.class i >>= λ qs. integer_written span qs }
  type_step (ex.BooleanType span) own = refl
  type_step (ex.BitType span) own = refl
  type_step (ex.NamedType span name) own =
      λ i. record { span = span; ty = λ o G. found_or (type_in (own i)) T02 span >>= λ T. Ok (named_written T) }
  type_step (ex.BitsType span e fs) own = λ i. record {
    span = span;
    ty = λ o G. (e.1 i).width (first G.class) >>= λ w. bitfields_same fs G.class i >>= λ xs. bits_written t.limit o span w.poly w.tree xs;
  }
  type_step (ex.TupleType span ts) own = λ i. record { span = span; ty = λ o G. types_same o ts G.class i >>= λ Ws. tuple_written span Ws }
  type_step (ex.ArrayType span e w) own = λ i. written_in A ss (type_rule t (ex.ArrayType span (as_found e.0 (e.1 i)) (w.1 i)))

  unary_same : (span : Span) (o : UnaryOperator) (a : EE) → WidthSame (expr_rule t (ex.Unary span o a.0))
  unary_same span unary.Negate a = λ i. width_in A ss (expr_rule t (ex.Unary span unary.Negate (as_found a.0 (a.1 i))))
  unary_same span unary.Not a = refl
  unary_same span unary.Complement a = refl

  -- what joins two expressions
  abbrev two_at : List Entry → List Signature → Span → Joining → Found → Found → InWidth
  two_at X us span j a b = record {
    width = λ G. width_of span (reading_of_two j a b) (scope_at X us G.class);
    number = λ G. number_of span (reading_of_two j a b) (scope_at X us G.class);
    has_atom = λ G. names_atom (reading_of_two j a b) (scope_at X us G.class);
  }

  two_same : (span : Span) (j : Joining) (a b : EE) → two_at A ss span j a.0 b.0 ≡ two_at B rs span j a.0 b.0
  two_same span (Combines c) a b = λ i. two_at A ss span (Combines c) (as_found a.0 (a.1 i)) (as_found b.0 (b.1 i))
  two_same span Divides a b = λ i. two_at A ss span Divides (as_found a.0 (a.1 i)) (as_found b.0 (b.1 i))
  two_same span JoinsNothing a b = refl

  expr_step : (y : ex.Expr-F BB CC EE FF PP SS TT) → OwnExpr (SameInWidths A B) y →
      WidthSame (expr_rule t (map-Expr BB CC EE FF PP SS TT FoundBitfield FoundPart Found FoundField FoundPattern FoundSlice FoundType
      (λ x. x.0) (λ x. x.0) (λ x. x.0) (λ x. x.0) (λ x. x.0) (λ x. x.0) (λ x. x.0) y))
  expr_step (ex.Name span name) own = λ i. record {
    width = λ G. width_of_standing span (own.0 i) >>= λ p. Ok (width_as p (tree.Read (width_note span) (own.1 i)));
    number = λ G. number_of_standing span (own.0 i) >>= λ z. Ok (number_as z (tree.Read (width_note span) (own.1 i)));
    has_atom = λ G. storage_has_atom (storage_in (own.0 i));
  }
  expr_step (ex.Unary span o a) own = unary_same span o a
  expr_step (ex.Binary span o a b) own = two_same span (joining o) a b
  -- no other form is a width
  expr_step y own = refl

  -- a written type is the same where the names of values and of types in it are, whatever it calls
  pub written_same : (w : TypeExpr) → Each (SameInWidths A B) (type_uses w) → TypeSame (found_type t w)
  written_same = by_uses.type_holds (SameInWidths A B) FoundBitfield FoundPart Found FoundField FoundPattern FoundSlice FoundType
      bitfield_rule part_rule (expr_rule t) given_rule (pattern_rule t) slice_rule (type_rule t) BitfieldSame PartSame WidthSame Any Any Any
      TypeSame
      (record {
        bitfield = bitfield_step;
        part = part_step;
        expr = expr_step;
        given = λ y. tt;
        pattern = λ y. tt;
        slice = λ y. tt;
        type = type_step;
      })
