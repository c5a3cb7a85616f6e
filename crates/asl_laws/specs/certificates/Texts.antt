-- The lines of certificates as texts: places, effects, types and widths.
use Rattle.std.specs.Prelude.{ℕ, ◌+◌, ◌==◌, nat_lt, ℤ, pos, negsuc, Bool, true, false, ◌&&◌, ◌||◌, if◌then◌else◌, List, [], ◌∷◌, ◌++◌}
use Rattle.std.specs.Prelude.{length, map, Option, Some, None, codes}
use Rattle.std.specs.Str.{bytes_eq}
use Rattle.std.specs.Fmt.{decimal}
use Rattle.asl_syn.specs.declared.token.Span.{Span}
use Rattle.asl_poly.specs.Terms.{Summand, Polynomial}
use Rattle.asl_cons.specs.declared.End.{End}
use Rattle.asl_cons.specs.declared.End.TheVariants.{Int, Width}
use Rattle.asl_cons.specs.declared.Part.{Part}
use Rattle.asl_rules.specs.declared.effect.Effect.{Effect}
use Rattle.asl_rules.specs.declared.effect.Effect.TheVariants.{Pure, Readonly, Writes}
use Rattle.asl_rules.specs.report.Texts.{Text, integer_text}
use Rattle.asl_rules.specs.types.Types.{Ty, Parts, BitField, integer_of, boolean, bits_of, enumeration_of, record_of, exception_of}
use Rattle.asl_rules.specs.types.Types.{tuple_of, array_of, named, no_part, part}
use Rattle.asl_rules.specs.declarations.Scopes.{Entry, name_at}

-- texts with commas between
abbrev pub with_commas : List Text → Text
with_commas [] = []
with_commas (t ∷ []) = t
with_commas (t ∷ ts) = t ++ (codes "," ++ with_commas ts)

-- ---- names in order

-- a text stands before another: byte by byte, and a prefix first
abbrev pub text_before : Text → Text → Bool
text_before [] [] = false
text_before [] (b ∷ bs) = true
text_before (a ∷ more) [] = false
text_before (a ∷ more) (b ∷ bs) = nat_lt a b || ((a == b) && text_before more bs)

-- lists of names in the same way
abbrev pub names_before : List Text → List Text → Bool
names_before [] [] = false
names_before [] (n ∷ ns) = true
names_before (m ∷ ms) [] = false
names_before (m ∷ ms) (n ∷ ns) = text_before m n || (bytes_eq m n && names_before ms ns)

abbrev pub with_name : Text → List Text → List Text
with_name n [] = n ∷ []
with_name n (m ∷ ms) = if text_before m n then m ∷ with_name n ms else n ∷ m ∷ ms

abbrev pub sorted_names : List Text → List Text
sorted_names [] = []
sorted_names (n ∷ ns) = with_name n (sorted_names ns)

-- ---- widths

-- a term of a width: a coefficient, and the names that it is multiplied with, each as often as it is a factor, in order
pub record Term : Type 0 where
  pub coefficient : ℤ
  pub names : List Text

abbrev pub term_over : List Entry → Summand → Term
term_over names t = record { coefficient = t.coefficient; names = sorted_names (map (name_at names) t.factors) }

-- fewer names first, and of as many the earlier ones
abbrev pub term_before : Term → Term → Bool
term_before s t = nat_lt (length s.names) (length t.names) || ((length s.names == length t.names) && names_before s.names t.names)

abbrev pub with_term : Term → List Term → List Term
with_term t [] = t ∷ []
with_term t (s ∷ ss) = if term_before s t then s ∷ with_term t ss else t ∷ s ∷ ss

abbrev pub sorted_terms : List Term → List Term
sorted_terms [] = []
sorted_terms (t ∷ ts) = with_term t (sorted_terms ts)

abbrev pub is_below_0 : ℤ → Bool
is_below_0 (pos n) = false
is_below_0 (negsuc n) = true

abbrev pub without_sign : ℤ → ℕ
without_sign (pos n) = n
without_sign (negsuc n) = n + 1

abbrev pub factors_text : List Text → Text
factors_text [] = []
factors_text (n ∷ ns) = codes "*" ++ (n ++ factors_text ns)

abbrev pub term_text : Term → Text
term_text t = decimal (without_sign t.coefficient) ++ factors_text t.names

abbrev pub more_terms : List Term → Text
more_terms [] = []
more_terms (t ∷ ts) = (if is_below_0 t.coefficient then codes "-" else codes "+") ++ (term_text t ++ more_terms ts)

abbrev pub terms_text : List Term → Text
terms_text [] = codes "0"
terms_text (t ∷ ts) = (if is_below_0 t.coefficient then codes "-" else []) ++ (term_text t ++ more_terms ts)

-- terms over a denominator, which is shown where it is above 1
abbrev pub over_text : ℕ → Text → Text
over_text d t = if d == 1 then t else codes "(" ++ (t ++ (codes ")/" ++ decimal d))

-- a width over the visible names
abbrev pub width_text : List Entry → Polynomial → Text
width_text names p = over_text p.denominator (terms_text (sorted_terms (map (term_over names) p.terms)))

-- ---- types

abbrev pub end_text : List Entry → End → Text
end_text names (Int z) = integer_text z
end_text names (Width p) = width_text names p

abbrev pub from_to_text : Text → Text → Text
from_to_text low high = if bytes_eq low high then low else low ++ (codes ".." ++ high)

abbrev pub range_text : List Entry → Part → Text
range_text names p = from_to_text (end_text names p.low) (end_text names p.high)

abbrev pub bitfield_text : BitField → Text
bitfield_text f = codes "[" ++ (decimal f.high ++ (codes ":" ++ (decimal f.low ++ (codes "]" ++ f.name))))

abbrev pub in_braces : List Text → Text
in_braces [] = []
in_braces (t ∷ ts) = codes "{" ++ (with_commas (t ∷ ts) ++ codes "}")

abbrev mutual
  pub type_text : List Entry → Ty → Text
  type_text names (integer_of ps) = codes "integer" ++ in_braces (map (range_text names) ps)
  type_text names boolean = codes "boolean"
  type_text names (bits_of w view) = codes "bits(" ++ (width_text names w ++ (codes ")" ++ in_braces (map bitfield_text view)))
  type_text names (enumeration_of name labels) = name
  type_text names (record_of name fs) = name
  type_text names (exception_of name fs) = name
  type_text names (tuple_of ts) = codes "(" ++ (with_commas (part_texts names ts) ++ codes ")")
  type_text names (array_of n T) = codes "array[" ++ (decimal n ++ (codes "]" ++ type_text names T))
  type_text names (named name supers T) = name

  pub part_texts : List Entry → Parts → List Text
  part_texts names no_part = []
  part_texts names (part T Ts) = type_text names T ∷ part_texts names Ts

-- ---- lines, without their line feeds

abbrev pub span_text : Span → Text
span_text s = decimal s.file ++ (codes ":" ++ (decimal s.start ++ (codes "+" ++ decimal s.len)))

abbrev pub effect_text : Effect → Text
effect_text Pure = codes "P"
effect_text Readonly = codes "R"
effect_text Writes = codes "W"

-- what a line is about: the body of a subprogram, an expression or a statement
pub data Place : Type 0 where
  of_body : Text → Place
  of_expr : Span → Place
  of_stmt : Span → Place

abbrev pub place_text : Place → Text
place_text (of_body name) = codes "B " ++ name
place_text (of_expr span) = codes "E " ++ span_text span
place_text (of_stmt span) = codes "S " ++ span_text span

-- which of the overloads of a name is called, counted in source order from 1, and the widths that stand for its parameters
pub record Call : Type 0 where
  pub overload : ℕ
  pub widths : List Polynomial

abbrev pub behind_space : Text → Text
behind_space t = codes " " ++ t

abbrev pub widths_text : List Entry → List Polynomial → Text
widths_text names [] = []
widths_text names (w ∷ ws) = behind_space (with_commas (map (width_text names) (w ∷ ws)))

abbrev pub call_text : List Entry → Option Call → Text
call_text names None = []
call_text names (Some c) = codes " call " ++ (decimal c.overload ++ widths_text names c.widths)

-- a line: what it is about, and what stands behind that
pub record Line : Type 0 where
  pub place : Place
  pub rest : Text

abbrev pub line_text : Line → Text
line_text l = place_text l.place ++ l.rest

abbrev pub body_line : Text → Line
body_line name = record { place = of_body name; rest = [] }

abbrev pub expr_line : List Entry → Span → Effect → Ty → Option Call → Line
expr_line names span k T c = record {
  place = of_expr span;
  rest = behind_space (effect_text k) ++ (behind_space (type_text names T) ++ call_text names c);
}

abbrev pub falls_text : Bool → Text
falls_text true = codes "falls"
falls_text false = codes "ends"

abbrev pub stmt_line : List Entry → Span → Effect → Bool → Option Call → Line
stmt_line names span k falls c = record {
  place = of_stmt span;
  rest = behind_space (effect_text k) ++ (behind_space (falls_text falls) ++ call_text names c);
}

abbrev pub first_line : Text
first_line = codes "aslcert 1"

-- how many lines stand between
abbrev pub last_line : ℕ → Text
last_line n = codes "end " ++ decimal n
