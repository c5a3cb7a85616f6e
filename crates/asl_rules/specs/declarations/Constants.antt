-- The values of expressions that are known before any run: the plans of expressions over the visible names, where a part stands for
-- its value, and no step is counted.
use Rattle.std.specs.Prelude.{ℕ, List, Option, Some, None}
use Rattle.asl_syn.specs.declared.token.Span.{Span}
use Rattle.asl_syn.specs.declared.tree.Expr.{Expr}
use Rattle.asl_syn.specs.declared.tree.Bitfield.TheOpen as ex
use Rattle.asl_syn.specs.declared.tree.Bitfield.TheFolds.{fold-Expr}
use Rattle.asl_rules.specs.types.Shapes.{SliceShape, PatternShape, PartShape, BitfieldShape}
use Rattle.asl_rules.specs.types.Shaped.{Shaped, TypeOver, itself, given_layer, slice_layer, pattern_layer, part_layer, bitfield_layer, type_layer}
use Rattle.asl_rules.specs.values.Values.{Value}
use Rattle.asl_rules.specs.declarations.Scopes.{Entry, Standing, Stored, Subprogram, TypeName, Label, standing_of}
use Rattle.asl_rules.specs.runs.Plans.{Stuck, NothingCaught, CallBarred, Plan, Ret, Raise, Stop, Eval, Exec, Put, Within, Pure, Good, Bad}
use Rattle.asl_rules.specs.runs.Pures.{◌>>=◌, known}
use Rattle.asl_rules.specs.runs.ByNames.{Asks, Views, expr_plan, types_among}
use Rattle.asl_rules.specs.expressions.Exprs.{span_of}

-- the value of an expression where these names are visible
abbrev pub Known : Type 0
Known = List Entry → Pure Value

-- storage outside bodies has the value that it begins with
abbrev pub initial_value : Option Standing → Option Value
initial_value None = None
initial_value (Some (Stored s)) = s.initial
initial_value (Some Subprogram) = None
initial_value (Some (TypeName T)) = None
initial_value (Some (Label T x)) = Some x

-- what expressions ask before any run; they hold no call
abbrev pub before_runs : ℕ → Asks (List Entry) Known Known
before_runs limit = record {
  limit = limit;
  value = λ span name names. known span (initial_value (standing_of name names));
  types = types_among;
  call = λ span name ps xs names. Stop (Stuck CallBarred span) names;
}

abbrev pub known_parts : Views Known (Shaped (List ℕ) Known) (Shaped SliceShape Known) (Shaped PatternShape Known) (Shaped TypeOver Known)
known_parts = record { given = itself; slice = itself; pattern = itself; written = itself }

-- what a plan gives whose parts are such values; no form of expression throws or executes a statement
abbrev pub settled : {A : Type 0} → Span → List Entry → Plan (List Entry) Known Known A → Pure A
settled span names (Ret x c) = Good x
settled span names (Raise x c) = Bad (Stuck NothingCaught span)
settled span names (Stop e c) = Bad e
settled span names (Eval e c k) = e names >>= λ x. settled span names (k x names)
settled span names (Exec s c k) = Bad (Stuck CallBarred span)
settled span names (Put bytes q) = settled span names q
settled span names (Within q f g) = settled span names q >>= λ x. settled span names (f x names)

abbrev pub ConstantLayer : Type 0
ConstantLayer = ex.Expr-F (Shaped BitfieldShape Known) (Shaped PartShape Known) Known (Shaped (List ℕ) Known) (Shaped PatternShape Known) (Shaped SliceShape Known) (Shaped TypeOver Known)

abbrev pub constant_layer : ℕ → ConstantLayer → Known
constant_layer limit layer names = settled (span_of layer) names (expr_plan (before_runs limit) known_parts layer names)

abbrev pub constant : ℕ → Expr → Known
constant limit = fold-Expr (Shaped BitfieldShape Known) (Shaped PartShape Known) Known (Shaped (List ℕ) Known) (Shaped PatternShape Known) (Shaped SliceShape Known) (Shaped TypeOver Known)
    (bitfield_layer itself) (part_layer itself) (constant_layer limit) (given_layer itself) (pattern_layer itself itself) (slice_layer itself) (type_layer itself itself itself itself)
