-- Calls: of the subprograms of a program, and of the library.
use Rattle.std.specs.Prelude.{ℕ, suc, ◌-◌, ◌^◌, ◌==◌, ℤ, pos, neg_ℤ, nat_le, Bool, false, ◌&&◌, if◌then◌else◌, List, [], ◌∷◌, length, Option, Some, None, Result, Ok}
use Rattle.asl_syn.specs.declared.token.Span.{Span}
use Rattle.asl_syn.specs.declared.code.Fault.{Fault}
use Rattle.asl_syn.specs.declared.code.StaticCode.TheVariants.{T02, T09, T11, T12, T13, T18, T20}
use Rattle.asl_syn.specs.declared.tree.Ident.{Ident}
use Rattle.asl_poly.specs.Terms.{Polynomial}
use Rattle.asl_poly.specs.Poly.{constant_value, is_atom}
use Rattle.asl_cons.specs.declared.Part.{Part}
use Rattle.asl_rules.specs.declared.effect.Effect.{Effect}
use Rattle.asl_rules.specs.declared.effect.Effect.TheVariants.{Pure}
use Rattle.asl_rules.specs.Faults.{◌>>=◌, ◌>>◌, need, fault, found_or, fitted}
use Rattle.asl_rules.specs.declarations.Routines.{Routine, UInt, SInt, Zeros, Ones, ZeroExtend, SignExtend, IsZero, IsOnes, Len, Abs, Min, Max, routine_named}
use Rattle.asl_rules.specs.Tests.{Tests}
use Rattle.asl_rules.specs.types.Types.{Ty, Parts, Kinds, Widths, integers, bitvectors, no_kind, one_more, integer_of, boolean, bits_of, no_part, part, kinds, kinds_eq, width_of, only_width, from_to, misfit, substitute}
use Rattle.asl_rules.specs.runs.Trees as tree
use Rattle.asl_rules.specs.runs.Trees.{Tree, Callee, own, of_library}
use Rattle.asl_rules.specs.types.Effects.{greater, at_most, all_together, greatest}
use Rattle.asl_rules.specs.declarations.Scopes.{Scope, Signature, Chosen, Param, standing_of, is_subprogram, is_absent, choose}
use Rattle.asl_rules.specs.expressions.Typing.{Found, Typed, Operand, finish_all, operands, effects_of, types_of, trees_of, trees_from}

-- ---- the library

abbrev pub of_bits : Kinds
of_bits = one_more bitvectors no_kind

abbrev pub of_integer : Kinds
of_integer = one_more integers no_kind

-- the width of the first argument
abbrev pub first_width : Parts → Polynomial
first_width no_part = width_of boolean
first_width (part T Ts) = width_of T

-- bits of the first parameter
abbrev pub bits_of_first : List Polynomial → Ty
bits_of_first [] = boolean
bits_of_first (p ∷ ps) = bits_of p []

-- 0 to 2^k - 1, where the width is a constant k from 0 to 127
abbrev pub unsigned : Option ℤ → List Part
unsigned (Some (pos k)) = if nat_le k 127 then from_to (pos 0) (pos (2 ^ k - 1)) else []
unsigned o = []

-- -2^(k-1) to 2^(k-1) - 1, where the width is a constant k from 1 to 128
abbrev pub signed : Option ℤ → List Part
signed (Some (pos k)) = if nat_le 1 k && nat_le k 128 then from_to (neg_ℤ (pos (2 ^ (k - 1)))) (pos (2 ^ (k - 1) - 1)) else []
signed o = []

-- how many parameters it has in braces
abbrev pub routine_params : Routine → ℕ
routine_params UInt = 0
routine_params SInt = 0
routine_params Zeros = 1
routine_params Ones = 1
routine_params ZeroExtend = 1
routine_params SignExtend = 1
routine_params IsZero = 0
routine_params IsOnes = 0
routine_params Len = 0
routine_params Abs = 0
routine_params Min = 0
routine_params Max = 0

-- the kinds of its formals
abbrev pub routine_formals : Routine → Kinds
routine_formals UInt = of_bits
routine_formals SInt = of_bits
routine_formals Zeros = no_kind
routine_formals Ones = no_kind
routine_formals ZeroExtend = of_bits
routine_formals SignExtend = of_bits
routine_formals IsZero = of_bits
routine_formals IsOnes = of_bits
routine_formals Len = of_bits
routine_formals Abs = of_integer
routine_formals Min = one_more integers of_integer
routine_formals Max = one_more integers of_integer

-- its result where its parameters are these widths and its arguments have these types
abbrev pub routine_type : Routine → List Polynomial → Parts → Ty
routine_type UInt ps Ts = integer_of (unsigned (constant_value (first_width Ts)))
routine_type SInt ps Ts = integer_of (signed (constant_value (first_width Ts)))
routine_type Zeros ps Ts = bits_of_first ps
routine_type Ones ps Ts = bits_of_first ps
routine_type ZeroExtend ps Ts = bits_of_first ps
routine_type SignExtend ps Ts = bits_of_first ps
routine_type IsZero ps Ts = boolean
routine_type IsOnes ps Ts = boolean
routine_type Len ps Ts = integer_of (only_width (first_width Ts))
routine_type Abs ps Ts = integer_of []
routine_type Min ps Ts = integer_of []
routine_type Max ps Ts = integer_of []

-- ---- parameters

-- the width that stands for a parameter, and the place of the expression that gives it
pub record Given : Type 0 where
  pub width : Polynomial
  pub span : Span

abbrev pub given : Polynomial → Span → Given
given p span = record { width = p; span = span }

-- what stands for parameters: the trees of those in braces, or the places of the arguments that give them
pub record Replacing : Type 0 where
  pub given : List Given
  pub places : List ℕ
  pub trees : List Tree

abbrev pub replacing : List Given → List ℕ → List Tree → Replacing
replacing gs ns ts = record { given = gs; places = ns; trees = ts }

-- one more in front, which is written in braces
abbrev pub written_first : Given → Tree → Replacing → Replacing
written_first g t r = replacing (g ∷ r.given) r.places (t ∷ r.trees)

-- or which the argument in this place gives
abbrev pub argument_first : Given → ℕ → Replacing → Replacing
argument_first g n r = replacing (g ∷ r.given) (n ∷ r.places) r.trees

-- the widths of expressions in braces
abbrev pub widths_given : List Found → Scope → Result Replacing Fault
widths_given [] G = Ok (replacing [] [] [])
widths_given (e ∷ es) G = e.width G >>= λ w. widths_given es G >>= λ r. Ok (written_first (given w.poly e.span) w.tree r)

abbrev pub polys : List Given → List Polynomial
polys [] = []
polys (g ∷ gs) = g.width ∷ polys gs

-- the type is `bits(P)` with this parameter alone, without a name
abbrev pub is_width_alone : ℕ → Ty → Bool
is_width_alone atom (bits_of w view) = is_atom atom w
is_width_alone atom T = false

-- an argument by its place
pub record Giving : Type 0 where
  pub place : ℕ
  pub given : Given

-- what the first argument gives whose formal is `bits(P)`, where the first of these is in this place
abbrev pub given_by_argument : ℕ → ℕ → Parts → List Operand → Option Giving
given_by_argument atom n (part T Ts) (o ∷ os) =
    if is_width_alone atom T then Some (record { place = n; given = given (width_of o.typed.ty) o.span }) else given_by_argument atom (suc n) Ts os
given_by_argument atom n no_part os = None
given_by_argument atom n (part T Ts) [] = None

abbrev pub widths_omitted : Span → List Param → Parts → List Operand → Result Replacing Fault
widths_omitted span [] Ts os = Ok (replacing [] [] [])
widths_omitted span (p ∷ ps) Ts os =
    found_or (given_by_argument p.atom 0 Ts os) T11 span >>= λ g. widths_omitted span ps Ts os >>= λ r. Ok (argument_first g.given g.place r)

-- those in braces, in number; where there are none, each the whole width of an argument
abbrev pub widths_rule : Span → Signature → List Found → List Operand → Scope → Result Replacing Fault
widths_rule span f [] os G = widths_omitted span f.params f.formals os
widths_rule span f (e ∷ es) os G = need (length (e ∷ es) == length f.params) T11 span >> widths_given (e ∷ es) G

-- what stands for the parameters
abbrev pub replaced_by : List Param → List Given → Widths
replaced_by (p ∷ ps) (g ∷ gs) = (p.atom, g.width) ∷ replaced_by ps gs
replaced_by ps gs = []

-- right before a fit the type that asks for it has the parameters replaced, T20 at the call in place of the fit
abbrev pub fits_replaced : Tests → Span → Widths → Ty → Ty → Span → Result (Unit {0}) Fault
fits_replaced t span by S T at = found_or (substitute by T) T20 span >>= λ U. fitted (misfit t S U) at

abbrev pub fits_written : Tests → Span → Widths → Option Ty → Given → Result (Unit {0}) Fault
fits_written t span by None g = Ok tt
fits_written t span by (Some T) g = fits_replaced t span by (integer_of (only_width g.width)) T g.span

abbrev pub params_fit : Tests → Span → Widths → List Param → List Given → Result (Unit {0}) Fault
params_fit t span by (p ∷ ps) (g ∷ gs) = fits_written t span by p.ty g >> params_fit t span by ps gs
params_fit t span by ps gs = Ok tt

abbrev pub arguments_fit : Tests → Span → Widths → Parts → List Operand → Result (Unit {0}) Fault
arguments_fit t span by (part T Ts) (o ∷ os) = fits_replaced t span by o.typed.ty T o.span >> arguments_fit t span by Ts os
arguments_fit t span by Ts os = Ok tt

-- all parameters and arguments of a call fit
abbrev pub both_fit : Tests → Span → Signature → List Given → List Operand → Widths → Result (Unit {0}) Fault
both_fit t span f gs os by = params_fit t span by f.params gs >> arguments_fit t span by f.formals os

-- ---- calls

-- the arguments, and the name of a subprogram
abbrev pub call_begun : Ident → List Found → Scope → Result (List Operand) Fault
call_begun i es G = operands es G >>= λ os. need (is_subprogram (standing_of i.text G.names)) T02 i.span >> Ok os

abbrev pub chosen : Span → Ident → List Operand → List Signature → Result Chosen Fault
chosen span i os subs = found_or (choose i.text (types_of os) subs) T09 span

abbrev pub call_tree : Callee → Replacing → List Operand → tree.Note → Tree
call_tree f r os n = tree.Call n f r.places (trees_from r.trees) (trees_of os)

-- a subprogram of the library takes arguments of its kinds (T09)
abbrev pub routine_taken : Span → Routine → List Operand → Result (Unit {0}) Fault
routine_taken span r os = need (kinds_eq (routine_formals r) (kinds (types_of os))) T09 span

abbrev pub routine_called : Effect → Span → Routine → Replacing → List Operand → Result Typed Fault
routine_called class span r w os = finish_all class span os Pure (routine_type r (polys w.given) (types_of os)) (call_tree (of_library r) w os)

-- a function of the program with its result, its parameters and its arguments
abbrev pub function_called : Tests → Effect → Span → Chosen → Ty → Replacing → List Operand → Result Typed Fault
function_called t class span f T w os =
    both_fit t span f.signature w.given os (replaced_by f.signature.params w.given) >>
    found_or (substitute (replaced_by f.signature.params w.given) T) T20 span >>= λ U.
    finish_all class span os f.signature.class U (call_tree (own f.number) w os)

-- a function of the library, or of the program
abbrev pub function_of : Tests → Span → Ident → List Found → List Operand → Scope → Option Routine → Result Typed Fault
function_of t span i ps os G (Some r) =
    routine_taken span r os >>
    need (length ps == routine_params r) T11 span >>
    widths_given ps G >>= λ w.
    routine_called G.class span r w os
function_of t span i ps os G None =
    chosen span i os G.subs >>= λ f.
    found_or f.signature.result T18 span >>= λ T.
    widths_rule span f.signature ps os G >>= λ w.
    function_called t G.class span f T w os

abbrev pub function_rule : Tests → Span → Ident → List Found → List Found → Scope → Result Typed Fault
function_rule t span i ps es G = call_begun i es G >>= λ os. function_of t span i ps os G (routine_named i.text)

-- a call of a procedure: its effect and what is called
pub record Called : Type 0 where
  pub effect : Effect
  pub callee : Callee
  pub places : List ℕ
  pub params : List Tree
  pub arguments : List Operand

abbrev pub called : Callee → Replacing → List Operand → Effect → Called
called f r os k = record { effect = k; callee = f; places = r.places; params = r.trees; arguments = os }

abbrev pub procedure_effect : List Operand → Effect → Effect
procedure_effect os class = greater (greatest Pure (effects_of os)) class

abbrev pub procedure_called : Tests → Effect → Span → Chosen → Replacing → List Operand → Result Called Fault
procedure_called t class span f w os =
    both_fit t span f.signature w.given os (replaced_by f.signature.params w.given) >>
    need (all_together Pure (effects_of os)) T13 span >>
    need (at_most (procedure_effect os f.signature.class) class) T12 span >>
    Ok (called (own f.number) w os (procedure_effect os f.signature.class))

-- the library has no procedure
abbrev pub procedure_of : Tests → Span → Ident → List Found → List Operand → Scope → Option Routine → Result Called Fault
procedure_of t span i ps os G (Some r) = routine_taken span r os >> fault T18 span
procedure_of t span i ps os G None =
    chosen span i os G.subs >>= λ f.
    need (is_absent f.signature.result) T18 span >>
    widths_rule span f.signature ps os G >>= λ w.
    procedure_called t G.class span f w os

abbrev pub procedure_rule : Tests → Span → Ident → List Found → List Found → Scope → Result Called Fault
procedure_rule t span i ps es G = call_begun i es G >>= λ os. procedure_of t span i ps os G (routine_named i.text)
