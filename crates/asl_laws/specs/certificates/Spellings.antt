-- The format of certificates as a grammar: which texts are lines, by what they are put together from. Numbers, names and widths are spelled
-- as `is_number`, `is_name` and `is_width` say.
use Rattle.std.specs.Prelude.{◌≡◌, ◌⊎◌, ℕ, zero, suc, true, List, [], ◌∷◌, ◌++◌, codes, Bool, if◌then◌else◌, map}
use Rattle.asl_rules.specs.report.Texts.{Text}
use Rattle.asl_laws.specs.certificates.Texts.{with_commas, factors_text, first_line}
use Rattle.asl_laws.specs.certificates.Format.{is_number, is_name, is_width, in_order, term_in, terms_rise}

abbrev pub IsNumber : Text → Type 0
IsNumber t = is_number t ≡ true

abbrev pub IsName : Text → Type 0
IsName t = is_name t ≡ true

abbrev pub IsWidth : Text → Type 0
IsWidth t = is_width t ≡ true

abbrev pub Each : (Text → Type 0) → List Text → Type 0
Each P [] = Unit {0}
Each P (t ∷ ts) = P t × Each P ts

-- at least one, and each
abbrev pub OneOrMore : (Text → Type 0) → List Text → Type 0
OneOrMore P [] = ⊥
OneOrMore P (t ∷ ts) = P t × Each P ts

-- ---- widths

-- a term without its sign: a coefficient above 0, and the names that it is multiplied with, in order
pub record TermSpelled (t : Text) : Type 0 where
  pub coefficient : Text
  pub names : List Text
  pub is : t ≡ coefficient ++ factors_text names
  pub coefficient_is : IsNumber coefficient
  pub above_0 : coefficient ≡ codes "0" → ⊥
  pub names_are : Each IsName names
  pub sorted : in_order names ≡ true

-- terms behind a first, each with its sign, a `-` or a `+`
abbrev pub signed : List (Bool × Text) → Text
signed [] = []
signed (s ∷ more) = (if s.0 then codes "-" else codes "+") ++ (s.1 ++ signed more)

abbrev pub terms_in : List (Bool × Text) → List Text
terms_in more = map (λ (s : Bool × Text). s.1) more

pub record TermsSpelled (t : Text) : Type 0 where
  pub minus : Bool
  pub first : Text
  pub more : List (Bool × Text)
  pub is : t ≡ (if minus then codes "-" else []) ++ (first ++ signed more)
  pub terms_are : Each TermSpelled (first ∷ terms_in more)
  pub rise : terms_rise (map term_in (first ∷ terms_in more)) ≡ true

-- terms in brackets, and a number above 1 that they are divided by
pub record QuotientSpelled (t : Text) : Type 0 where
  pub terms : Text
  pub denominator : Text
  pub is : t ≡ codes "(" ++ (terms ++ (codes ")/" ++ denominator))
  pub terms_are : TermsSpelled terms
  pub denominator_is : IsNumber denominator
  pub above_1 : ((denominator ≡ codes "0") ⊎ (denominator ≡ codes "1")) → ⊥

-- `0`, terms that rise, or such terms over a denominator
abbrev pub WidthSpelled : Text → Type 0
WidthSpelled t = (t ≡ codes "0") ⊎ (TermsSpelled t ⊎ QuotientSpelled t)

-- widths are recognised exactly where they are spelled so
pub record WidthLaw (t : Text) : Type 0 where
  pub spelled : IsWidth t → WidthSpelled t
  pub recognised : WidthSpelled t → IsWidth t

-- ---- types

-- `P..Q`, of ends that are spelled apart
pub record FromTo (t : Text) : Type 0 where
  pub low : Text
  pub high : Text
  pub is : t ≡ low ++ (codes ".." ++ high)
  pub low_is : IsWidth low
  pub high_is : IsWidth high
  pub differ : low ≡ high → ⊥

abbrev pub Range : Text → Type 0
Range t = IsWidth t ⊎ FromTo t

-- `integer{..}`
pub record Integers (t : Text) : Type 0 where
  pub ranges : List Text
  pub is : t ≡ codes "integer{" ++ (with_commas ranges ++ codes "}")
  pub ranges_are : OneOrMore Range ranges

-- `[H:L]NAME`
pub record BitfieldSpelled (t : Text) : Type 0 where
  pub high : Text
  pub low : Text
  pub name : Text
  pub is : t ≡ codes "[" ++ (high ++ (codes ":" ++ (low ++ (codes "]" ++ name))))
  pub high_is : IsNumber high
  pub low_is : IsNumber low
  pub name_is : IsName name

pub record View (t : Text) : Type 0 where
  pub fields : List Text
  pub is : t ≡ codes "{" ++ (with_commas fields ++ codes "}")
  pub fields_are : OneOrMore BitfieldSpelled fields

-- `bits(P)`, with bitfields behind it where there are some
pub record Bits (t : Text) : Type 0 where
  pub width : Text
  pub view : Text
  pub is : t ≡ codes "bits(" ++ (width ++ (codes ")" ++ view))
  pub width_is : IsWidth width
  pub view_is : (view ≡ []) ⊎ View view

-- `(T,T)`, of at least two
pub record Tuple (P : Text → Type 0) (t : Text) : Type 0 where
  pub first : Text
  pub second : Text
  pub more : List Text
  pub is : t ≡ codes "(" ++ (with_commas (first ∷ second ∷ more) ++ codes ")")
  pub are : Each P (first ∷ second ∷ more)

-- `array[N]T`
pub record Array (P : Text → Type 0) (t : Text) : Type 0 where
  pub size : Text
  pub item : Text
  pub is : t ≡ codes "array[" ++ (size ++ (codes "]" ++ item))
  pub size_is : IsNumber size
  pub item_is : P item

-- a type with at most so many levels
unfoldable pub TypeSpelled : ℕ → Text → Type 0
TypeSpelled zero t = ⊥
TypeSpelled (suc n) t =
    (t ≡ codes "integer") ⊎ ((t ≡ codes "boolean") ⊎
    (IsName t ⊎ (Integers t ⊎ (Bits t ⊎ (Tuple (TypeSpelled n) t ⊎ Array (TypeSpelled n) t)))))

-- ---- lines

-- `F:START+LENGTH`
pub record SpanSpelled (t : Text) : Type 0 where
  pub file : Text
  pub start : Text
  pub len : Text
  pub is : t ≡ file ++ (codes ":" ++ (start ++ (codes "+" ++ len)))
  pub file_is : IsNumber file
  pub start_is : IsNumber start
  pub len_is : IsNumber len

abbrev pub EffectSpelled : Text → Type 0
EffectSpelled t = (t ≡ codes "P") ⊎ ((t ≡ codes "R") ⊎ (t ≡ codes "W"))

-- ` call I`, and widths where there are some
pub record CallSpelled (t : Text) : Type 0 where
  pub overload : Text
  pub widths : Text
  pub is : t ≡ codes " call " ++ (overload ++ widths)
  pub overload_is : IsNumber overload
  pub above_0 : overload ≡ codes "0" → ⊥
  pub widths_are : (widths ≡ []) ⊎ ((ws : List Text) × ((widths ≡ codes " " ++ with_commas ws) × OneOrMore IsWidth ws))

abbrev pub MaybeCall : Text → Type 0
MaybeCall t = (t ≡ []) ⊎ CallSpelled t

-- `KIND SPAN EFFECT REST`, and a call where there is one
pub record NodeLine (kind : Text) (P : Text → Type 0) (t : Text) : Type 0 where
  pub span : Text
  pub effect : Text
  pub what : Text
  pub call : Text
  pub is : t ≡ kind ++ (codes " " ++ (span ++ (codes " " ++ (effect ++ (codes " " ++ (what ++ call))))))
  pub span_is : SpanSpelled span
  pub effect_is : EffectSpelled effect
  pub what_is : P what
  pub call_is : MaybeCall call

abbrev pub EndingSpelled : Text → Type 0
EndingSpelled t = (t ≡ codes "falls") ⊎ (t ≡ codes "ends")

-- `KIND REST`
pub record ShortLine (kind : Text) (P : Text → Type 0) (t : Text) : Type 0 where
  pub what : Text
  pub is : t ≡ kind ++ (codes " " ++ what)
  pub what_is : P what

abbrev pub LineSpelled : Text → Type 0
LineSpelled t =
    (t ≡ first_line) ⊎ (NodeLine (codes "E") (TypeSpelled 100) t ⊎
    (NodeLine (codes "S") EndingSpelled t ⊎ (ShortLine (codes "B") IsName t ⊎ ShortLine (codes "end") IsNumber t)))
