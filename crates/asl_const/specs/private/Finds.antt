-- How the answers of the evaluation of constants are related to the rules.
use Rattle.std.specs.Prelude.{◌≡◌, ℕ, Bool, List, [], ◌∷◌, ◌++◌, Option, Some, option_and_then, Result, Ok, Err}
use Rattle.asl_bits.specs.declared.TheConstants.{WIDTH_LIMIT}
use Rattle.asl_syn.specs.declared.token.Span.{Span}
use Rattle.asl_syn.specs.declared.tree.Bitfield.{Bitfield}
use Rattle.asl_syn.specs.declared.tree.ConstraintPart.{ConstraintPart}
use Rattle.asl_syn.specs.declared.tree.FieldValue.{FieldValue}
use Rattle.asl_syn.specs.declared.tree.Ident.{Ident}
use Rattle.asl_syn.specs.declared.tree.Pattern.{Pattern}
use Rattle.asl_syn.specs.declared.tree.Slice.{Slice}
use Rattle.asl_syn.specs.declared.tree.TypeExpr.{TypeExpr}
use Rattle.asl_rules.specs.declarations.Constants.{Known, constant_layer, settled}
use Rattle.asl_rules.specs.runs.Forms.{behind_all}
use Rattle.asl_rules.specs.values.Operators.{truth, Decided, Already, ByRight, Strictness, Strict, Lazy}
use Rattle.asl_rules.specs.runs.Plans.{Faulted, Stuck, Pure, Good, Bad}
use Rattle.asl_rules.specs.runs.Pures.{◌>>=◌}
use Rattle.asl_rules.specs.declarations.Scopes.{Entry}
use Rattle.asl_rules.specs.types.Shaped.{Shaped, Named, TypeOver}
use Rattle.asl_rules.specs.types.Shapes.{SliceShape, PatternShape, PartShape, BitfieldShape, TypeShape}
use Rattle.asl_rules.specs.types.Types.{BitField, View}
use Rattle.asl_rules.specs.values.Values.{Value}
use Rattle.asl_rules.specs.values.Vectors.{bitfield_named}
use Rattle.asl_value.specs.View.{value_of}
use Rattle.asl_const.specs.declared.failure.Unknown.{Unknown}
use Rattle.asl_const.specs.declared.failure.Unknown.TheVariants as unknown
use Rattle.asl_const.specs.declared.applying.Decision.{Decision}
use Rattle.asl_const.specs.declared.applying.Decision.TheVariants as decision
use Rattle.asl_const.specs.private.Parts.{bitfield_by, given_by, part_by, pattern_by, slice_by, type_by}
use Rattle.asl_const.specs.private.Unknowns.{mistake_of}

-- an answer is what the rules give, or memory was wanting
abbrev pub Finds : {A B : Type 0} → (A → B) → Result A Unknown → Pure B → Type 0
Finds view (Ok x) r = r ≡ Good (view x)
Finds view (Err unknown.NoMemory) r = Unit {0}
Finds view (Err (unknown.Fault code span)) r = r ≡ Bad (Faulted code span)
Finds view (Err (unknown.Stuck mistake span)) r = r ≡ Bad (Stuck (mistake_of mistake) span)

-- ---- parts of expressions, with the values that their expressions have

abbrev pub known_given : FieldValue → Shaped (List ℕ) Known
known_given = given_by (constant_layer WIDTH_LIMIT)

abbrev pub known_slice : Slice → Shaped SliceShape Known
known_slice = slice_by (constant_layer WIDTH_LIMIT)

abbrev pub known_pattern : Pattern → Shaped PatternShape Known
known_pattern = pattern_by (constant_layer WIDTH_LIMIT)

abbrev pub known_part : ConstraintPart → Shaped PartShape Known
known_part = part_by (constant_layer WIDTH_LIMIT)

abbrev pub known_bitfield : Bitfield → Shaped BitfieldShape Known
known_bitfield = bitfield_by (constant_layer WIDTH_LIMIT)

abbrev pub known_type : TypeExpr → Shaped TypeOver Known
known_type = type_by (constant_layer WIDTH_LIMIT)

-- the shapes of written types, behind those before, where all are known
abbrev pub types_after : List TypeShape → Named → List TypeOver → Option (List TypeShape)
types_after xs types [] = Some xs
types_after xs types (t ∷ ts) = option_and_then (λ s. types_after (xs ++ s ∷ []) types ts) (t types)

-- the bitfields of these names, behind those before
abbrev pub named_after : Span → List BitField → List Ident → View → Pure (List BitField)
named_after span xs [] v = Good xs
named_after span xs (i ∷ is) v = bitfield_named span i.text v >>= λ f. named_after span (xs ++ f ∷ []) is v

-- ---- expressions in order

-- the values of expressions in order, behind those before
abbrev pub known_after : List Value → List Known → List Entry → Pure (List Value)
known_after xs [] names = Good xs
known_after xs (e ∷ es) names = e names >>= λ x. known_after (xs ++ x ∷ []) es names

-- what is done with the values of expressions in order
abbrev pub with_all : {A : Type 0} → Span → List Known → List Entry → (List Value → Pure A) → Pure A
with_all span es names f = settled span names (behind_all es names f)

-- ---- operations

-- the value that a left operand decides, or itself where the right operand is asked
abbrev pub decision_of : Decision → Result Bool Value
decision_of (decision.Already b) = Ok b
decision_of (decision.ByRight x) = Err (value_of x)

abbrev pub as_decided : Value → Decided → Result Bool Value
as_decided x (Already b) = Ok b
as_decided x ByRight = Err x

abbrev pub decided_by : Span → Value → Strictness → Pure (Result Bool Value)
decided_by span x Strict = Good (Err x)
decided_by span x (Lazy f) = truth span x >>= λ p. Good (as_decided x (f p))
