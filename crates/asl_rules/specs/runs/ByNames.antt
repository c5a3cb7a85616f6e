-- The plans of untyped expressions, where names are found by name: what they ask of names and of calls, and the parts of them that
-- are no expressions, are given. Runs and constants are uses of them.
use Rattle.std.specs.Prelude.{ℕ, List, Option, option_map}
use Rattle.asl_syn.specs.declared.token.Span.{Span}
use Rattle.asl_syn.specs.declared.tree.Bitfield.TheOpen as ex
use Rattle.asl_rules.specs.types.Closed.{closed}
use Rattle.asl_rules.specs.types.Shapes.{SliceShape, PatternShape, no_pattern, pattern_and}
use Rattle.asl_rules.specs.types.Shaped.{Shaped, Named, TypeOver, exprs_in, shapes_in}
use Rattle.asl_rules.specs.values.Values.{Value, bool}
use Rattle.asl_rules.specs.types.Views.{stripped}
use Rattle.asl_rules.specs.declarations.Scopes.{Entry, type_of_name}
use Rattle.asl_rules.specs.runs.Plans.{Plan, Ret, Pure, Good}
use Rattle.asl_rules.specs.runs.Pures.{◌>>=◌}
use Rattle.asl_rules.specs.values.Operators.{unary_value}
use Rattle.asl_rules.specs.values.Vectors.{literal_bits, slices_of, bitfields_of, bitfields_named}
use Rattle.asl_rules.specs.values.Structures.{field_of, constructed}
use Rattle.asl_rules.specs.values.Matching.{is_matched}
use Rattle.asl_rules.specs.types.Written.{converted}
use Rattle.asl_rules.specs.runs.Forms.{at_once, literal, behind, behind_all, behind_more, operation, conditional, element, tuple, call, function_gives}

-- what declared names stand for
abbrev pub types_among : List Entry → Named
types_among names name = option_map closed (type_of_name name names)

-- the width limit; the value of a name and what declared names stand for in a state; and what a call by a name does with the values
-- of its parameters and arguments
pub record Asks (C E S : Type 0) : Type 1 where
  pub limit : ℕ
  pub value : Span → List ℕ → C → Pure Value
  pub types : C → Named
  pub call : Span → List ℕ → List Value → List Value → C → Plan C E S (Option Value)

-- fields that are given, slices, patterns and written types, taken apart
pub record Views (E F L P T : Type 0) : Type 0 where
  pub given : F → Shaped (List ℕ) E
  pub slice : L → Shaped SliceShape E
  pub pattern : P → Shaped PatternShape E
  pub written : T → Shaped TypeOver E

-- whether a value matches one pattern, as a value
abbrev pub matched_in : ℕ → PatternShape → List Value → Value → Pure Value
matched_in limit p zs x = is_matched limit (pattern_and p no_pattern) zs x >>= λ b. Good (bool b)

abbrev pub expr_plan : {B I F L P T C E S : Type 0} → Asks C E S → Views E F L P T → ex.Expr-F B I E F P L T → C → Plan C E S Value
expr_plan q v (ex.Int span n) c = at_once (literal span n) c
expr_plan q v (ex.Bits span t) c = at_once (literal_bits q.limit span t) c
expr_plan q v (ex.Bool span b) c = Ret (bool b) c
expr_plan q v (ex.Name span name) c = at_once (q.value span name c) c
expr_plan q v (ex.Unary span o a) c = behind a c (unary_value span o)
expr_plan q v (ex.Binary span o a b) c = operation q.limit span o a b c
expr_plan q v (ex.Conditional span e a b) c = conditional stripped span e a b c
expr_plan q v (ex.Tuple span es) c = tuple es c
expr_plan q v (ex.Construct span i fs) c = behind_all (exprs_in v.given fs) c (constructed span (q.types c i.text) (shapes_in v.given fs))
expr_plan q v (ex.Call span i ps es) c = call ps es c (q.call span i.text) (function_gives span)
expr_plan q v (ex.Field span a i) c = behind a c (field_of span i.text)
expr_plan q v (ex.Fields span a iss) c = behind a c (λ x. bitfields_named span iss x >>= λ fs. bitfields_of q.limit span fs x)
expr_plan q v (ex.Slices span a ss) c = behind_more a (exprs_in v.slice ss) c (λ x zs. slices_of q.limit span (shapes_in v.slice ss) zs x)
expr_plan q v (ex.Element span a i) c = element span a i c
expr_plan q v (ex.As span a t) c = behind_more a ((v.written t).exprs) c (λ x zs. converted q.limit span ((v.written t).shape (q.types c)) zs x)
expr_plan q v (ex.In span a p) c = behind_more a ((v.pattern p).exprs) c (λ x zs. matched_in q.limit ((v.pattern p).shape) zs x)
