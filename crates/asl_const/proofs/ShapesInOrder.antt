-- Shapes one behind another.
use Rattle.std.proofs.Common.{◌≡◌, ℕ, List, [], ◌∷◌, ◌++◌, map, Option, Some, None, refl, sym, ap, ◌∙◌}
use Rattle.std.specs.Prelude.{option_map, option_and_then}
use Rattle.asl_bits.specs.declared.TheConstants.{WIDTH_LIMIT}
use Rattle.asl_syn.specs.declared.token.Span.{Span}
use Rattle.asl_syn.specs.declared.tree.Bitfield.TheOpen as ex
use Rattle.asl_syn.specs.declared.tree.Bitfield.TheFolds.{fold-roll-TypeExpr}
use Rattle.asl_syn.specs.declared.tree.TypeExpr.{TypeExpr}
use Rattle.asl_syn.specs.declared.tree.TypeExpr.TheVariants as tv
use Rattle.asl_rules.specs.declarations.Constants.{Known, constant_layer}
use Rattle.asl_rules.specs.types.Shaped.{Shaped, Named, TypeOver, itself, shapes_in, bitfield_layer, part_layer, given_layer, pattern_layer, slice_layer, type_layer, pattern_shapes, type_shapes, first_shape}
use Rattle.asl_rules.specs.types.Shapes as rules
use Rattle.asl_shape.specs.declared.shapes.TypeShape.{TypeShape}
use Rattle.asl_shape.specs.View.{patterns_from, types_from, all_types, type_of}
use Rattle.asl_const.specs.private.Finds.{types_after, known_type}

-- patterns in order
pub same_patterns : (ps qs : List rules.PatternShape) → ps ≡ qs → patterns_from ps ≡ pattern_shapes qs
same_patterns ps qs h = ap patterns_from h ∙ by qs
  where
    by : (xs : List rules.PatternShape) → patterns_from xs ≡ pattern_shapes xs
    by [] = refl
    by (x ∷ xs) = ap (λ ys. rules.pattern_and x ys) (by xs)

-- ---- written types in order

abbrev before : List rules.TypeShape → rules.TypeShapes → rules.TypeShapes
before [] ts = ts
before (x ∷ xs) ts = rules.shape_and x (before xs ts)

before_one : (xs : List rules.TypeShape) (x : rules.TypeShape) (ts : rules.TypeShapes) → before (xs ++ x ∷ []) ts ≡ before xs (rules.shape_and x ts)
before_one [] x ts = refl
before_one (z ∷ xs) x ts = ap (rules.shape_and z) (before_one xs x ts)

before_none : (xs : List rules.TypeShape) → types_from xs ≡ before xs rules.no_shape
before_none [] = refl
before_none (x ∷ xs) = ap (rules.shape_and x) (before_none xs)

types_is : (xs : List rules.TypeShape) (types : Named) (ts : List TypeOver) →
    option_map types_from (types_after xs types ts) ≡ option_map (before xs) (type_shapes types ts)
types_is xs types [] = ap Some (before_none xs)
types_is xs types (t ∷ ts) = by (t types) (λ x. types_is (xs ++ x ∷ []) types ts)
  where
    more : (x : rules.TypeShape) (o : Option rules.TypeShapes) → option_map (before (xs ++ x ∷ [])) o ≡ option_map (before xs) (option_map (λ us. rules.shape_and x us) o)
    more x None = refl
    more x (Some us) = ap Some (before_one xs x us)

    by : (o : Option rules.TypeShape) → ((x : rules.TypeShape) → option_map types_from (types_after (xs ++ x ∷ []) types ts) ≡ option_map (before (xs ++ x ∷ [])) (type_shapes types ts)) →
        option_map types_from (option_and_then (λ x. types_after (xs ++ x ∷ []) types ts) o) ≡ option_map (before xs) (first_shape o (type_shapes types ts))
    by None h = refl
    by (Some x) h = h x ∙ more x (type_shapes types ts)

nothing_before : (o : Option rules.TypeShapes) → option_map (before []) o ≡ o
nothing_before None = refl
nothing_before (Some us) = refl

-- the types one by one are all of them
pub all_of_types : (types : Named) (ts : List TypeOver) → type_shapes types ts ≡ option_map types_from (types_after [] types ts)
all_of_types types ts = sym (types_is [] types ts ∙ nothing_before (type_shapes types ts))

-- the parts of a tuple that is written
tuple_is : (ty : TypeExpr) (span : Span) (ps : List TypeExpr) (types : Named) → ty ≡ tv.TupleType span ps →
    (known_type ty).shape types ≡ option_map (λ ss. rules.tuple_of ss) (type_shapes types (shapes_in itself (map known_type ps)))
tuple_is ty span ps types is =
    ap (λ u. (known_type u).shape types) (is ∙ sym (tv.rolls-TupleType span ps))
    ∙ ap (λ s. s.shape types) (fold-roll-TypeExpr (Shaped rules.BitfieldShape Known) (Shaped rules.PartShape Known) Known (Shaped (List ℕ) Known) (Shaped rules.PatternShape Known) (Shaped rules.SliceShape Known) (Shaped TypeOver Known)
    (bitfield_layer itself) (part_layer itself) (constant_layer WIDTH_LIMIT) (given_layer itself) (pattern_layer itself itself) (slice_layer itself) (type_layer itself itself itself itself) (ex.TupleType span ps))

of_parts : (o : Option (List TypeShape)) → option_map (λ ss. rules.tuple_of ss) (option_map types_from (option_map (λ ts. map type_of ts) o)) ≡ option_map (λ ts. rules.tuple_of (all_types ts)) o
of_parts None = refl
of_parts (Some ts) = refl

pub tuple_written : (ty : TypeExpr) (span : Span) (ps qs : List TypeExpr) (types : Named) (o : Option (List TypeShape)) (r : Option TypeShape) →
    ty ≡ tv.TupleType span ps → qs ≡ ps → option_map (λ ts. map type_of ts) o ≡ types_after [] types (shapes_in itself (map known_type qs)) →
    option_map type_of r ≡ option_map (λ ts. rules.tuple_of (all_types ts)) o → option_map type_of r ≡ (known_type ty).shape types
tuple_written ty span ps qs types o r is same h e =
    e ∙ (sym (of_parts o) ∙ (ap (λ p. option_map (λ ss. rules.tuple_of ss) (option_map types_from p)) (h ∙ ap (λ us. types_after [] types (shapes_in itself (map known_type us))) same)
    ∙ (ap (option_map (λ ss. rules.tuple_of ss)) (sym (all_of_types types (shapes_in itself (map known_type ps)))) ∙ sym (tuple_is ty span ps types is))))
