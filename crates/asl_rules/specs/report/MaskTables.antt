-- Tables of masks: for each `case` that has only masks and literals of bits as patterns, which of its masks a word matches both of, and whether every word is
-- matched.
use Rattle.std.specs.Prelude.{ℕ, suc, ◌==◌, nat_le, Bool, true, ◌&&◌, if◌then◌else◌, List, [], ◌∷◌, ◌++◌, map, length, Option, Some, None, codes}
use Rattle.std.specs.Fmt.{decimal}
use Rattle.asl_syn.specs.declared.token.Span.{Span}
use Rattle.asl_syn.specs.declared.tree.Expr.{Expr, out-Expr}
use Rattle.asl_syn.specs.declared.tree.Pattern.{Pattern, out-Pattern}
use Rattle.asl_syn.specs.declared.tree.Bitfield.TheOpen as ex
use Rattle.asl_syn.specs.declared.read.ReadStmt.{ReadStmt}
use Rattle.asl_syn.specs.declared.read.ReadAlternative.TheOpen as rs
use Rattle.asl_syn.specs.declared.read.ReadAlternative.TheFolds.{fold-ReadStmt}
use Rattle.asl_syn.specs.declared.read.ReadDecl.{ReadDecl}
use Rattle.asl_syn.specs.declared.read.ReadDecl.TheVariants as rd
use Rattle.asl_grammar.specs.lexemes.Refusals.{max_width}
use Rattle.asl_mask.specs.Least.{overlap_of}
use Rattle.asl_mask.specs.Covers.{Digits, cover_of}
use Rattle.asl_mask.specs.declared.cover.Cover.{Cover}
use Rattle.asl_mask.specs.declared.cover.Cover.TheVariants as cover
use Rattle.asl_rules.specs.values.Vectors.{literal_digits}
use Rattle.asl_rules.specs.declarations.WrittenOut.{joined}
use Rattle.asl_rules.specs.report.Texts.{Text, File, line_feed, bits_text, line_at}

-- ---- patterns

-- the digits of an expression that is a literal of bits
abbrev pub expr_literal : {B I X F P L T : Type 0} → ex.Expr-F B I X F P L T → Option Digits
expr_literal (ex.Int span n) = None
expr_literal (ex.Bits span text) = Some (literal_digits text)
expr_literal (ex.Bool span b) = None
expr_literal (ex.Name span text) = None
expr_literal (ex.Unary span o a) = None
expr_literal (ex.Binary span o a b) = None
expr_literal (ex.Conditional span c a b) = None
expr_literal (ex.Tuple span xs) = None
expr_literal (ex.Construct span i fs) = None
expr_literal (ex.Call span i ps xs) = None
expr_literal (ex.Field span a i) = None
expr_literal (ex.Fields span a iss) = None
expr_literal (ex.Slices span a ss) = None
expr_literal (ex.Element span a i) = None
expr_literal (ex.As span a t) = None
expr_literal (ex.In span a p) = None

-- the digits of a pattern that is a mask or a literal of bits
abbrev pub pattern_literal : {B I F P L T : Type 0} → ex.Pattern-F B I Expr F P L T → Option Digits
pattern_literal (ex.AnyPattern span) = None
pattern_literal (ex.SetPattern span negated ps) = None
pattern_literal (ex.MaskPattern span text) = Some (literal_digits text)
pattern_literal (ex.AtMost span e) = None
pattern_literal (ex.AtLeast span e) = None
pattern_literal (ex.TuplePattern span ps) = None
pattern_literal (ex.ValuePattern span e) = expr_literal (out-Expr e)
pattern_literal (ex.RangePattern span a b) = None

abbrev pub literal_of : Pattern → Option Digits
literal_of p = pattern_literal (out-Pattern p)

-- ---- the masks of a `case`

-- each mask with the number of its alternative, counted from 0 in the `case`
abbrev pub Masks : Type 0
Masks = List (ℕ × Digits)

abbrev pub with_literal : ℕ → Option Digits → Option Masks → Option Masks
with_literal n (Some m) (Some ms) = Some ((n, m) ∷ ms)
with_literal n m ms = None

-- those of the alternative with this number, where all its patterns are masks or literals of bits
abbrev pub literals : ℕ → List Pattern → Option Masks
literals n [] = Some []
literals n (p ∷ ps) = with_literal n (literal_of p) (literals n ps)

-- none where it has a condition
abbrev pub unless_where : Option Expr → Option Masks → Option Masks
unless_where None ms = ms
unless_where (Some e) ms = None

abbrev pub both : Option Masks → Option Masks → Option Masks
both (Some ms) (Some more) = Some (ms ++ more)
both ms more = None

-- where a `case` stands that has only masks and literals of bits as patterns, and its masks in order
pub record MaskCase : Type 0 where
  pub span : Span
  pub masks : Masks

abbrev pub Cases : Type 0
Cases = List MaskCase

-- an alternative, with the `case`s in its list in place of the list
pub record Choice : Type 0 where
  pub patterns : List Pattern
  pub condition : Option Expr
  pub inside : Cases

-- the masks of these alternatives, of which the first has this number
abbrev pub masks_from : ℕ → List Choice → Option Masks
masks_from n [] = Some []
masks_from n (c ∷ cs) = both (unless_where c.condition (literals n c.patterns)) (masks_from (suc n) cs)

abbrev pub case_with : Span → Option Masks → Cases
case_with span None = []
case_with span (Some ms) = record { span = span; masks = ms } ∷ []

-- a `case` that has an alternative
abbrev pub case_at : Span → List Choice → Cases
case_at span [] = []
case_at span (c ∷ cs) = case_with span (masks_from 0 (c ∷ cs))

abbrev pub inside_of : List Choice → List Cases
inside_of [] = []
inside_of (c ∷ cs) = c.inside ∷ inside_of cs

-- ---- the `case`s of a program, in source order: an outer one stands before those in its lists

abbrev pub stmt_cases : rs.ReadStmt-F Choice Cases Cases Cases Cases → Cases
stmt_cases (rs.Simple s) = []
stmt_cases (rs.Store span i ps es xs e) = []
stmt_cases (rs.If span c first others last) = joined first ++ (joined others ++ joined last)
stmt_cases (rs.Case span e cs last) = case_at span cs ++ (joined (inside_of cs) ++ last)
stmt_cases (rs.For span i a d b limit ss) = joined ss
stmt_cases (rs.While span c limit ss) = joined ss
stmt_cases (rs.Repeat span ss c limit) = joined ss
stmt_cases (rs.Try span ss cs last) = joined ss ++ (joined cs ++ last)

abbrev pub alternative_choice : rs.ReadAlternative-F Choice Cases Cases Cases Cases → Choice
alternative_choice (rs.When ps e ss) = record { patterns = ps; condition = e; inside = joined ss }

abbrev pub catcher_cases : rs.ReadCatcher-F Choice Cases Cases Cases Cases → Cases
catcher_cases (rs.Catch i t ss) = joined ss

abbrev pub else_if_cases : rs.ReadElseIf-F Choice Cases Cases Cases Cases → Cases
else_if_cases (rs.ElseIf c ss) = joined ss

abbrev pub otherwise_cases : rs.ReadOtherwise-F Choice Cases Cases Cases Cases → Cases
otherwise_cases rs.NoOtherwise = []
otherwise_cases (rs.Otherwise ss) = joined ss

abbrev pub cases_in : ReadStmt → Cases
cases_in =
    fold-ReadStmt Choice Cases Cases Cases Cases
    alternative_choice catcher_cases else_if_cases otherwise_cases stmt_cases

-- a getter stands before its setter
abbrev pub body_of : ReadDecl → List ReadStmt
body_of (rd.Type d) = []
body_of (rd.Storage d) = []
body_of (rd.Func f) = f.body
body_of (rd.Accessor a) = a.getter ++ a.setter

-- all bodies count, those that may be replaced and those that replace them
abbrev pub cases_of : List ReadDecl → Cases
cases_of [] = []
cases_of (d ∷ ds) = joined (map cases_in (body_of d)) ++ cases_of ds

-- ---- tables

-- where the `case` stands, the width of its masks, and these in order
pub record MaskTable : Type 0 where
  pub span : Span
  pub width : ℕ
  pub masks : Masks

-- the width of the first mask
abbrev pub width_in : Masks → ℕ
width_in [] = 0
width_in ((n, m) ∷ ms) = length m

-- all masks have this width
abbrev pub are_wide : ℕ → Masks → Bool
are_wide w [] = true
are_wide w ((n, m) ∷ ms) = length m == w && are_wide w ms

-- All masks have one width. In a program that is accepted it is so in each `case`, since all its masks are matched with one value.
abbrev pub is_even : Masks → Bool
is_even ms = are_wide (width_in ms) ms

-- A mask has at most 2,048 digits. In a file it is so: a longer one is no lexeme.
abbrev pub is_narrow : Masks → Bool
is_narrow ms = nat_le (width_in ms) max_width

abbrev pub table_of : MaskCase → List MaskTable
table_of c =
    if is_even c.masks && is_narrow c.masks
    then record { span = c.span; width = width_in c.masks; masks = c.masks } ∷ []
    else []

abbrev pub tables_from : Cases → List MaskTable
tables_from [] = []
tables_from (c ∷ cs) = table_of c ++ tables_from cs

-- the tables of declarations as they are read
unfoldable pub tables_of : List ReadDecl → List MaskTable
tables_of ds = tables_from (cases_of ds)

-- ---- lines

-- `FILE:LINE:COLUMN+LENGTH: K masks of width W`
abbrev pub head_line : List File → MaskTable → Text
head_line files x = line_at files x.span (decimal (length x.masks) ++ (codes " masks of width " ++ decimal x.width))

-- `I J 'WORD'` where some word matches both masks, with the least such word
abbrev pub pair_line : ℕ → ℕ → Option (List Bool) → Text
pair_line i j None = []
pair_line i j (Some v) = decimal i ++ (codes " " ++ (decimal j ++ (codes " " ++ (bits_text v ++ line_feed))))

-- nothing for two masks of one alternative
abbrev pub pair_text : ℕ → ℕ → ℕ → ℕ × Digits → ℕ × Digits → Text
pair_text w i j (a, m) (b, n) = if a == b then [] else pair_line i j (overlap_of w m n)

-- the mask numbered i with those behind it, of which the first is numbered j
abbrev pub pairs_with : ℕ → ℕ → ℕ → ℕ × Digits → Masks → Text
pairs_with w i j a [] = []
pairs_with w i j a (b ∷ bs) = pair_text w i j a b ++ pairs_with w i (suc j) a bs

-- each pair of these masks, of which the first is numbered i, in order
abbrev pub all_pairs : ℕ → ℕ → Masks → Text
all_pairs w i [] = []
all_pairs w i (a ∷ ms) = pairs_with w i (suc i) a ms ++ all_pairs w (suc i) ms

abbrev pub digits_in : Masks → List Digits
digits_in [] = []
digits_in ((n, m) ∷ ms) = m ∷ digits_in ms

-- `total`, `free 'WORD'` or `budget`
abbrev pub cover_line : Cover → Text
cover_line cover.Budget = codes "budget" ++ line_feed
cover_line cover.Total = codes "total" ++ line_feed
cover_line (cover.Free v) = codes "free " ++ (bits_text v ++ line_feed)

-- the lines of a table; masks are counted from 1
abbrev pub table_text : List File → ℕ → MaskTable → Text
table_text files budget x =
    head_line files x ++ (all_pairs x.width 1 x.masks ++ cover_line (cover_of x.width budget (digits_in x.masks)))

abbrev pub tables_text : List File → ℕ → List MaskTable → Text
tables_text files budget [] = []
tables_text files budget (x ∷ xs) = table_text files budget x ++ tables_text files budget xs

-- how many tables there are
abbrev pub cases_line : ℕ → Text
cases_line n = codes "cases " ++ (decimal n ++ line_feed)

-- what `masks` writes of declarations that are accepted
abbrev pub masks_text : List File → ℕ → List ReadDecl → Text
masks_text files budget ds = tables_text files budget (tables_of ds) ++ cases_line (length (tables_of ds))
