-- The value of an expression before any run depends on the names that it uses alone.
use Rattle.std.proofs.Common.{◌≡◌, ℕ, List, [], ◌∷◌, map, refl, ap, ◌∙◌}
use Rattle.std.specs.Prelude.{option_map}
use Rattle.asl_syn.specs.declared.tree.Expr.{Expr}
use Rattle.asl_syn.specs.declared.tree.Bitfield.TheOpen as ex
use Rattle.asl_syn.specs.declared.tree.Bitfield.TheFolds.{map-Bitfield, map-ConstraintPart, map-Expr, map-FieldValue, map-Pattern}
use Rattle.asl_syn.specs.declared.tree.Bitfield.TheFolds.{map-Slice, map-TypeExpr}
use Rattle.asl_rules.specs.values.Values.{tuple_with}
use Rattle.asl_rules.specs.values.Vectors.{literal_bits}
use Rattle.asl_rules.specs.values.Structures.{constructed, values_of}
use Rattle.asl_rules.specs.values.Operators.{strictness, truth, unary_value}
use Rattle.asl_rules.specs.types.Written.{converted}
use Rattle.asl_rules.specs.runs.Plans.{Good}
use Rattle.asl_rules.specs.runs.Forms as forms
use Rattle.asl_rules.specs.runs.Forms.{behind_all, behind_more}
use Rattle.asl_rules.specs.runs.ByNames.{types_among}
use Rattle.asl_rules.specs.types.Closed.{closed}
use Rattle.asl_rules.specs.declarations.Scopes.{Entry, standing_of, type_in}
use Rattle.asl_rules.specs.types.Shapes as shape
use Rattle.asl_rules.specs.types.Shapes.{SliceShape, PatternShape, PartShape, BitfieldShape}
use Rattle.asl_rules.specs.types.Shaped.{Shaped, TypeOver, itself, exprs_in, shapes_in, given_layer, slice_layer, pattern_layer, part_layer}
use Rattle.asl_rules.specs.types.Shaped.{bitfield_layer, type_layer}
use Rattle.asl_rules.specs.declarations.Constants.{Known, initial_value, settled, constant_layer, constant}
use Rattle.asl_rules.specs.runs.Pures.{known}
use Rattle.asl_rules.specs.declarations.UsedNames.{Use, Each, expr_uses}
use Rattle.asl_laws.proofs.basics.Lists.{AllOf}
use Rattle.asl_laws.proofs.names.SameConstants.{KnownSame, ShapeSame, pure_same, once_same, behind_same, eval_all_same, behind_all_same}
use Rattle.asl_laws.proofs.names.SameConstants.{behind_more_same, behind_left_same, taken_same, exprs_same, written_exprs, shapes_same}
use Rattle.asl_laws.proofs.names.SamePlaces.{Shows}
use Rattle.asl_laws.proofs.names.ByUses as by_uses
use Rattle.asl_laws.proofs.names.ByUses.{OwnExpr, OwnType}

pub all_of : {X : Type 0} (Q : X → Type 0) (xs : List ((x : X) × Q x)) → AllOf Q (map (λ x. x.0) xs)
all_of Q [] = tt
all_of Q (x ∷ xs) = (x.1, all_of Q xs)

module _ (limit : ℕ) (A B : List Entry) where
  abbrev Same : Use → Type 0
  Same = Shows A B

  abbrev ExprsSame : {X : Type 0} → Shaped X Known → Type 0
  ExprsSame s = AllOf (KnownSame limit A B) s.exprs

  abbrev BB : Type 0
  BB = (x : Shaped BitfieldShape Known) × ExprsSame x

  abbrev CC : Type 0
  CC = (x : Shaped PartShape Known) × ExprsSame x

  abbrev EE : Type 0
  EE = (x : Known) × KnownSame limit A B x

  abbrev FF : Type 0
  FF = (x : Shaped (List ℕ) Known) × ExprsSame x

  abbrev PP : Type 0
  PP = (x : Shaped PatternShape Known) × ExprsSame x

  abbrev SS : Type 0
  SS = (x : Shaped SliceShape Known) × ExprsSame x

  abbrev TT : Type 0
  TT = (x : Shaped TypeOver Known) × ShapeSame limit A B x

  -- the expressions of all these parts
  parts_same : {X : Type 0} (xs : List ((x : Shaped X Known) × ExprsSame x)) →
      AllOf (KnownSame limit A B) (exprs_in itself (map (λ x. x.0) xs))
  parts_same xs = exprs_same limit A B (map (λ x. x.0) xs) (all_of ExprsSame xs)

  types_same : (name : List ℕ) → standing_of name A ≡ standing_of name B → types_among A name ≡ types_among B name
  types_same name h = ap (λ o. option_map closed (type_in o)) h

  bitfield_step : (y : ex.Bitfield-F BB CC EE FF PP SS TT) →
      ExprsSame (bitfield_layer itself (map-Bitfield BB CC EE FF PP SS TT (Shaped BitfieldShape Known) (Shaped PartShape Known) Known
      (Shaped (List ℕ) Known) (Shaped PatternShape Known) (Shaped SliceShape Known) (Shaped TypeOver Known) (λ x. x.0) (λ x. x.0) (λ x. x.0)
      (λ x. x.0) (λ x. x.0) (λ x. x.0) (λ x. x.0) y))
  bitfield_step (ex.OneBit e n) = (e.1, tt)
  bitfield_step (ex.BitRange a b n) = (a.1, (b.1, tt))

  part_step : (y : ex.ConstraintPart-F BB CC EE FF PP SS TT) →
      ExprsSame (part_layer itself (map-ConstraintPart BB CC EE FF PP SS TT (Shaped BitfieldShape Known) (Shaped PartShape Known) Known
      (Shaped (List ℕ) Known) (Shaped PatternShape Known) (Shaped SliceShape Known) (Shaped TypeOver Known) (λ x. x.0) (λ x. x.0) (λ x. x.0)
      (λ x. x.0) (λ x. x.0) (λ x. x.0) (λ x. x.0) y))
  part_step (ex.Only e) = (e.1, tt)
  part_step (ex.FromTo a b) = (a.1, (b.1, tt))

  given_step : (y : ex.FieldValue-F BB CC EE FF PP SS TT) →
      ExprsSame (given_layer itself (map-FieldValue BB CC EE FF PP SS TT (Shaped BitfieldShape Known) (Shaped PartShape Known) Known
      (Shaped (List ℕ) Known) (Shaped PatternShape Known) (Shaped SliceShape Known) (Shaped TypeOver Known) (λ x. x.0) (λ x. x.0) (λ x. x.0)
      (λ x. x.0) (λ x. x.0) (λ x. x.0) (λ x. x.0) y))
  given_step (ex.Given n e) = (e.1, tt)

  slice_step : (y : ex.Slice-F BB CC EE FF PP SS TT) →
      ExprsSame (slice_layer itself (map-Slice BB CC EE FF PP SS TT (Shaped BitfieldShape Known) (Shaped PartShape Known) Known
      (Shaped (List ℕ) Known) (Shaped PatternShape Known) (Shaped SliceShape Known) (Shaped TypeOver Known) (λ x. x.0) (λ x. x.0) (λ x. x.0)
      (λ x. x.0) (λ x. x.0) (λ x. x.0) (λ x. x.0) y))
  slice_step (ex.BitAt e) = (e.1, tt)
  slice_step (ex.HighLow a b) = (a.1, (b.1, tt))
  slice_step (ex.LowWidth a b) = (a.1, (b.1, tt))
  slice_step (ex.FactorWidth a b) = (a.1, (b.1, tt))

  pattern_step : (y : ex.Pattern-F BB CC EE FF PP SS TT) →
      ExprsSame (pattern_layer itself itself
      (map-Pattern BB CC EE FF PP SS TT (Shaped BitfieldShape Known) (Shaped PartShape Known) Known (Shaped (List ℕ) Known)
      (Shaped PatternShape Known) (Shaped SliceShape Known) (Shaped TypeOver Known) (λ x. x.0) (λ x. x.0) (λ x. x.0) (λ x. x.0) (λ x. x.0)
      (λ x. x.0) (λ x. x.0) y))
  pattern_step (ex.AnyPattern span) = tt
  pattern_step (ex.SetPattern span b ps) = parts_same ps
  pattern_step (ex.MaskPattern span text) = tt
  pattern_step (ex.AtMost span e) = (e.1, tt)
  pattern_step (ex.AtLeast span e) = (e.1, tt)
  pattern_step (ex.TuplePattern span ps) = parts_same ps
  pattern_step (ex.ValuePattern span e) = (e.1, tt)
  pattern_step (ex.RangePattern span a b) = (a.1, (b.1, tt))

  type_step : (y : ex.TypeExpr-F BB CC EE FF PP SS TT) → OwnType Same y →
      ShapeSame limit A B (type_layer itself itself itself itself
      (map-TypeExpr BB CC EE FF PP SS TT (Shaped BitfieldShape Known) (Shaped PartShape Known) Known (Shaped (List ℕ) Known)
      (Shaped PatternShape Known) (Shaped SliceShape Known) (Shaped TypeOver Known) (λ x. x.0) (λ x. x.0) (λ x. x.0) (λ x. x.0) (λ x. x.0)
      (λ x. x.0) (λ x. x.0) y))
  type_step (ex.IntegerType span ps) own = record { exprs_are = parts_same ps; shape_is = refl }
  type_step (ex.BooleanType span) own = record { exprs_are = tt; shape_is = refl }
  type_step (ex.BitType span) own = record { exprs_are = tt; shape_is = refl }
  type_step (ex.NamedType span name) own =
      record { exprs_are = tt; shape_is = ap (λ o. option_map (λ T. shape.known T) o) (types_same name own) }
  type_step (ex.BitsType span e fs) own = record { exprs_are = (e.1, parts_same fs); shape_is = refl }
  type_step (ex.TupleType span ts) own =
      let h = all_of (ShapeSame limit A B) ts in
      record {
        exprs_are = written_exprs limit A B (map (λ x. x.0) ts) h;
        shape_is = ap (λ o. option_map (λ ss. shape.tuple_of ss) o) (shapes_same limit A B (map (λ x. x.0) ts) h);
      }
  type_step (ex.ArrayType span e w) own =
      record { exprs_are = (e.1, w.1.exprs_are); shape_is = ap (λ o. option_map (λ s. shape.array_of s) o) w.1.shape_is }

  expr_step : (y : ex.Expr-F BB CC EE FF PP SS TT) → OwnExpr Same y →
      KnownSame limit A B (constant_layer limit
      (map-Expr BB CC EE FF PP SS TT (Shaped BitfieldShape Known) (Shaped PartShape Known) Known (Shaped (List ℕ) Known)
      (Shaped PatternShape Known) (Shaped SliceShape Known) (Shaped TypeOver Known) (λ x. x.0) (λ x. x.0) (λ x. x.0) (λ x. x.0) (λ x. x.0)
      (λ x. x.0) (λ x. x.0) y))
  expr_step (ex.Int span n) own = once_same limit A B span (forms.literal span n)
  expr_step (ex.Bits span text) own = once_same limit A B span (literal_bits limit span text)
  expr_step (ex.Bool span b) own = refl
  expr_step (ex.Name span name) own = ap (λ o. settled span A (forms.at_once (known span (initial_value o)) A)) own
      ∙ once_same limit A B span (known span (initial_value (standing_of name B)))
  expr_step (ex.Unary span o a) own = behind_same limit A B span a.0 (unary_value span o) a.1
  expr_step (ex.Binary span o a b) own = pure_same (a.0 A) (a.0 B) _ _ a.1
      (λ x. behind_left_same limit A B span span o b.0 x (strictness o) b.1)
  expr_step (ex.Conditional span c a b) own = pure_same (c.0 A) (c.0 B) _ _ c.1
      (λ x. taken_same limit A B span a.0 b.0 (truth span x) a.1 b.1)
  expr_step (ex.Tuple span es) own = behind_all_same limit A B span (map (λ x. x.0) es) (λ xs. Good (tuple_with (values_of xs)))
      (all_of (KnownSame limit A B) es)
  expr_step (ex.Construct span n fs) own =
      let ks = map (λ x. x.0) fs in
      ap (λ o. settled span A (behind_all (exprs_in itself ks) A (constructed span o (shapes_in itself ks)))) (types_same n.text own)
      ∙ behind_all_same limit A B span (exprs_in itself ks) (constructed span (types_among B n.text) (shapes_in itself ks))
      (parts_same fs)
  expr_step (ex.Call span n ps es) own =
      eval_all_same limit A B span (map (λ x. x.0) ps) [] _ _ (all_of (KnownSame limit A B) ps)
      (λ ys. eval_all_same limit A B span (map (λ x. x.0) es) [] _ _ (all_of (KnownSame limit A B) es) (λ xs. refl))
  expr_step (ex.Field span a n) own = behind_same limit A B span a.0 _ a.1
  expr_step (ex.Fields span a ns) own = behind_same limit A B span a.0 _ a.1
  expr_step (ex.Slices span a xs) own = behind_more_same limit A B span a.0 (exprs_in itself (map (λ x. x.0) xs)) _ a.1 (parts_same xs)
  expr_step (ex.Element span a n) own = pure_same (a.0 A) (a.0 B) _ _ a.1 (λ x. behind_same limit A B span n.0 _ n.1)
  expr_step (ex.As span a w) own =
      ap (λ o. settled span A (behind_more a.0 w.0.exprs A (λ x zs. converted limit span o zs x))) w.1.shape_is
      ∙ behind_more_same limit A B span a.0 w.0.exprs (λ x zs. converted limit span (w.0.shape (types_among B)) zs x) a.1 w.1.exprs_are
  expr_step (ex.In span a q) own = behind_more_same limit A B span a.0 q.0.exprs _ a.1 q.1

  pub constant_same : (e : Expr) → Each (Shows A B) (expr_uses e) → constant limit e A ≡ constant limit e B
  constant_same = by_uses.expr_holds Same (Shaped BitfieldShape Known) (Shaped PartShape Known) Known (Shaped (List ℕ) Known)
      (Shaped PatternShape Known) (Shaped SliceShape Known) (Shaped TypeOver Known) (bitfield_layer itself) (part_layer itself)
      (constant_layer limit) (given_layer itself) (pattern_layer itself itself) (slice_layer itself)
      (type_layer itself itself itself itself) ExprsSame ExprsSame (KnownSame limit A B) ExprsSame ExprsSame ExprsSame (ShapeSame limit A B)
      (record {
        bitfield = bitfield_step;
        part = part_step;
        expr = expr_step;
        given = given_step;
        pattern = pattern_step;
        slice = slice_step;
        type = type_step;
      })
