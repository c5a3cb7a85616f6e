-- Names and operators in widths.
use Rattle.std.proofs.Common.{◌≡◌, ℕ, List, Result, Ok, sym, ap, subst, ◌∙◌}
use Rattle.asl_syn.specs.declared.code.Fault.{Fault}
use Rattle.asl_syn.specs.declared.code.Refused.{Refused}
use Rattle.asl_syn.specs.declared.code.StaticCode.TheVariants.{T19}
use Rattle.asl_syn.specs.declared.token.Span.{Span}
use Rattle.asl_syn.specs.declared.tree.Expr.{Expr}
use Rattle.asl_syn.specs.declared.tree.BinaryOperator.{BinaryOperator}
use Rattle.asl_syn.specs.declared.tree.Expr.TheVariants as ev
use Rattle.asl_syn.specs.declared.tree.Bitfield.TheOpen as ex
use Rattle.asl_syn.specs.declared.tree.Bitfield.TheFolds.{fold-roll-Expr}
use Rattle.asl_rules.specs.declared.joining.Combination.{Combination}
use Rattle.asl_rules.specs.declared.joining.Joining.{Joining}
use Rattle.asl_rules.specs.declared.joining.Joining.TheVariants.{Combines, Divides}
use Rattle.asl_rules.specs.types.Arithmetic.{joining, reading_of_two}
use Rattle.asl_rules.specs.expressions.Exprs as rules
use Rattle.asl_rules.specs.expressions.Exprs.{FoundField, found, width, bitfield_rule, part_rule, expr_rule, given_rule, pattern_rule, slice_rule, type_rule}
use Rattle.asl_rules.specs.expressions.Exprs.{name_read, combined_tree, divided_tree}
use Rattle.asl_rules.specs.Faults.{◌>>=◌, found_or}
use Rattle.asl_rules.specs.expressions.Patterns.{FoundPattern}
use Rattle.asl_rules.specs.declarations.Scopes.{Scope, standing_of}
use Rattle.asl_rules.specs.expressions.Slicing.{FoundSlice}
use Rattle.asl_rules.specs.Tests.{Tests}
use Rattle.asl_rules.specs.expressions.Typing as typing
use Rattle.asl_rules.specs.expressions.Typing.{Found, width_as, number_as}
use Rattle.asl_rules.specs.types.Widths.{width_of_standing, number_of_standing}
use Rattle.asl_rules.specs.types.Widths.{width_combined, width_divided, number_combined, number_divided}
use Rattle.asl_rules.specs.types.Writing.{FoundPart, FoundBitfield, FoundType}
use Rattle.asl_types.specs.private.Answers.{Met}
use Rattle.asl_widths.specs.declared.widths.Number.{Number}
use Rattle.asl_widths.specs.declared.widths.Width.{Width}
use Rattle.asl_widths.specs.WidthViews.{width_of, number_of}

abbrev named : Span → List ℕ → Scope → Result typing.Width Fault
named span name G = width_of_standing span (standing_of name G.names) >>= λ p. Ok (width_as p (name_read span name G))

pub name_width : (t : Tests) (e : Expr) (span : Span) (name other : List ℕ) (G : Scope) (r : Result Width Refused) →
    e ≡ ev.Name span name → other ≡ name → Met width_of r (named span other G) → Met width_of r (width t e G)
name_width t e span name other G r is same met = subst (λ (z : Result typing.Width Fault). Met width_of r z) (sym gives) met
  where
    gives : width t e G ≡ named span other G
    gives =
        ap (λ u. width t u G) (is ∙ sym (ev.rolls-Name span name))
        ∙ ap (λ (f : Found). f.width G) (fold-roll-Expr FoundBitfield FoundPart Found FoundField FoundPattern FoundSlice FoundType bitfield_rule part_rule (expr_rule t) given_rule (pattern_rule t) slice_rule (type_rule t) (ex.Name span name))
        ∙ ap (λ x. named span x G) (sym same)

abbrev numbered : Span → List ℕ → Scope → Result typing.Number Fault
numbered span name G = number_of_standing span (standing_of name G.names) >>= λ z. Ok (number_as z (name_read span name G))

pub name_number : (t : Tests) (e : Expr) (span : Span) (name other : List ℕ) (G : Scope) (r : Result Number Refused) →
    e ≡ ev.Name span name → other ≡ name → Met number_of r (numbered span other G) → Met number_of r ((found t e).number G)
name_number t e span name other G r is same met = subst (λ (z : Result typing.Number Fault). Met number_of r z) (sym gives) met
  where
    gives : (found t e).number G ≡ numbered span other G
    gives =
        ap (λ u. (found t u).number G) (is ∙ sym (ev.rolls-Name span name))
        ∙ ap (λ (f : Found). f.number G) (fold-roll-Expr FoundBitfield FoundPart Found FoundField FoundPattern FoundSlice FoundType bitfield_rule part_rule (expr_rule t) given_rule (pattern_rule t) slice_rule (type_rule t) (ex.Name span name))
        ∙ ap (λ x. numbered span x G) (sym same)

-- ---- operators that join widths

found_at_two : (t : Tests) (e : Expr) (span : Span) (op : BinaryOperator) (a b : Expr) → e ≡ ev.Binary span op a b →
    found t e ≡ expr_rule t (ex.Binary span op (found t a) (found t b))
found_at_two t e span op a b is =
    ap (found t) (is ∙ sym (ev.rolls-Binary span op a b))
    ∙ fold-roll-Expr FoundBitfield FoundPart Found FoundField FoundPattern FoundSlice FoundType bitfield_rule part_rule (expr_rule t) given_rule
    (pattern_rule t) slice_rule (type_rule t) (ex.Binary span op a b)

joined_widths : (t : Tests) (e : Expr) (span : Span) (op : BinaryOperator) (a b : Expr) (j : Joining) (G : Scope) →
    e ≡ ev.Binary span op a b → j ≡ joining op →
    width t e G ≡ rules.width_of span (reading_of_two j (found t a) (found t b)) G
joined_widths t e span op a b j G is does =
    ap (λ (f : Found). f.width G) (found_at_two t e span op a b is)
    ∙ ap (λ k. rules.width_of span (reading_of_two k (found t a) (found t b)) G) (sym does)

abbrev combined : Span → Combination → typing.Width → typing.Width → Result typing.Width Fault
combined span o p q =
    width_combined span o p.poly q.poly >>= λ r. Ok (width_as r (combined_tree span o p.tree q.tree))

pub combined_widths : (t : Tests) (e : Expr) (span : Span) (op : BinaryOperator) (o : Combination) (a b : Expr) (G : Scope)
    (p q : typing.Width) (r : Result Width Refused) →
    e ≡ ev.Binary span op a b → Combines o ≡ joining op → width t a G ≡ Ok p → width t b G ≡ Ok q →
    Met width_of r (combined span o p q) → Met width_of r (width t e G)
combined_widths t e span op o a b G p q r is does left right met =
    subst (λ (z : Result typing.Width Fault). Met width_of r z) (sym gives) met
  where
    gives : width t e G ≡ combined span o p q
    gives =
        joined_widths t e span op a b (Combines o) G is does
        ∙ ap (λ (w : Result typing.Width Fault). w >>= λ x. width t b G >>= λ y. combined span o x y) left
        ∙ ap (λ (w : Result typing.Width Fault). w >>= λ y. combined span o p y) right

abbrev divided : Span → typing.Width → Found → Result typing.Width Fault
divided span p b =
    found_or b.divisor T19 span >>= λ k. width_divided span p.poly k >>= λ r. Ok (width_as r (divided_tree span p.tree b.span k))

pub divided_widths : (t : Tests) (e : Expr) (span : Span) (op : BinaryOperator) (a b : Expr) (G : Scope)
    (p : typing.Width) (r : Result Width Refused) →
    e ≡ ev.Binary span op a b → Divides ≡ joining op → width t a G ≡ Ok p →
    Met width_of r (divided span p (found t b)) → Met width_of r (width t e G)
divided_widths t e span op a b G p r is does left met =
    subst (λ (z : Result typing.Width Fault). Met width_of r z) (sym gives) met
  where
    gives : width t e G ≡ divided span p (found t b)
    gives =
        joined_widths t e span op a b Divides G is does
        ∙ ap (λ (w : Result typing.Width Fault). w >>= λ x. divided span x (found t b)) left

-- ---- operators that join numbers

joined_numbers : (t : Tests) (e : Expr) (span : Span) (op : BinaryOperator) (a b : Expr) (j : Joining) (G : Scope) →
    e ≡ ev.Binary span op a b → j ≡ joining op →
    (found t e).number G ≡ rules.number_of span (reading_of_two j (found t a) (found t b)) G
joined_numbers t e span op a b j G is does =
    ap (λ (f : Found). f.number G) (found_at_two t e span op a b is)
    ∙ ap (λ k. rules.number_of span (reading_of_two k (found t a) (found t b)) G) (sym does)

abbrev combined_held : Span → Combination → typing.Number → typing.Number → Result typing.Number Fault
combined_held span o y z =
    number_combined span o y.number z.number >>= λ n. Ok (number_as n (combined_tree span o y.tree z.tree))

pub combined_numbers : (t : Tests) (e : Expr) (span : Span) (op : BinaryOperator) (o : Combination) (a b : Expr) (G : Scope)
    (y z : typing.Number) (r : Result Number Refused) →
    e ≡ ev.Binary span op a b → Combines o ≡ joining op → (found t a).number G ≡ Ok y → (found t b).number G ≡ Ok z →
    Met number_of r (combined_held span o y z) → Met number_of r ((found t e).number G)
combined_numbers t e span op o a b G y z r is does left right met =
    subst (λ (n : Result typing.Number Fault). Met number_of r n) (sym gives) met
  where
    gives : (found t e).number G ≡ combined_held span o y z
    gives =
        joined_numbers t e span op a b (Combines o) G is does
        ∙ ap (λ (n : Result typing.Number Fault). n >>= λ u. (found t b).number G >>= λ v. combined_held span o u v) left
        ∙ ap (λ (n : Result typing.Number Fault). n >>= λ v. combined_held span o y v) right

abbrev divided_held : Span → typing.Number → Found → Result typing.Number Fault
divided_held span z b =
    found_or b.divisor T19 span >>= λ k.
    number_divided span z.number k >>= λ n. Ok (number_as n (divided_tree span z.tree b.span k))

pub divided_numbers : (t : Tests) (e : Expr) (span : Span) (op : BinaryOperator) (a b : Expr) (G : Scope)
    (z : typing.Number) (r : Result Number Refused) →
    e ≡ ev.Binary span op a b → Divides ≡ joining op → (found t a).number G ≡ Ok z →
    Met number_of r (divided_held span z (found t b)) → Met number_of r ((found t e).number G)
divided_numbers t e span op a b G z r is does left met =
    subst (λ (n : Result typing.Number Fault). Met number_of r n) (sym gives) met
  where
    gives : (found t e).number G ≡ divided_held span z (found t b)
    gives =
        joined_numbers t e span op a b Divides G is does
        ∙ ap (λ (n : Result typing.Number Fault). n >>= λ u. divided_held span u (found t b)) left
