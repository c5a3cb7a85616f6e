-- The tables of `case`s, one behind another.
use Rattle.std.proofs.Common.{◌≡◌, ℕ, ◌+◌, ◌<◌, List, [], ◌∷◌, ◌++◌, length, map, drop, get_or, Result, Ok, Err, refl, sym, ap, ◌∙◌, append_assoc}
use Rattle.std.specs.Prelude.{OnOk}
use Rattle.asl_syn.specs.declared.token.Span.{Span}
use Rattle.asl_syn.specs.declared.tree.Expr.{Expr}
use Rattle.asl_syn.specs.declared.read.ReadAlternative.{ReadAlternative}
use Rattle.asl_syn.specs.declared.read.ReadAlternative.TheOpen as node
use Rattle.asl_syn.specs.declared.read.ReadAlternative.TheFolds.{fold-roll-ReadStmt, map-ReadStmt}
use Rattle.asl_syn.specs.declared.read.ReadElseIf.{ReadElseIf}
use Rattle.asl_syn.specs.declared.read.ReadOtherwise.{ReadOtherwise}
use Rattle.asl_syn.specs.declared.read.ReadCatcher.{ReadCatcher}
use Rattle.asl_syn.specs.declared.read.ReadStmt.{ReadStmt, roll-ReadStmt}
use Rattle.asl_syn.specs.declared.read.ReadStmt.TheVariants as rs
use Rattle.asl_syn.specs.declared.read.ReadDecl.{ReadDecl}
use Rattle.asl_rules.specs.declarations.WrittenOut.{joined}
use Rattle.asl_rules.specs.report.MaskTables as rules
use Rattle.asl_rules.specs.report.MaskTables.{Cases, Choice, case_at, MaskTable, table_of, tables_from, inside_of, cases_in, cases_of, body_of}
use Rattle.asl_table.specs.private.Walk.{choice_of, inside, catcher_cases, else_if_cases, otherwise_cases}
use Rattle.asl_value.proofs.Among.{at_front}

abbrev Tables : Type 0
Tables = List MaskTable

pub tables_append : (xs ys : Cases) → tables_from (xs ++ ys) ≡ tables_from xs ++ tables_from ys
tables_append [] ys = refl
tables_append (c ∷ xs) ys =
    ap (λ ts. table_of c ++ ts) (tables_append xs ys) ∙ sym (append_assoc (table_of c) (tables_from xs) (tables_from ys))

-- what was added once and once more
pub two : (old mid new : Tables) (xs ys : Cases) → mid ≡ old ++ tables_from xs → new ≡ mid ++ tables_from ys → new ≡ old ++ tables_from (xs ++ ys)
two old mid new xs ys h k =
    k ∙ ap (λ l. l ++ tables_from ys) h ∙ append_assoc old (tables_from xs) (tables_from ys) ∙ ap (λ l. old ++ l) (sym (tables_append xs ys))

pub three : (old a b new : Tables) (xs ys zs : Cases) → a ≡ old ++ tables_from xs → b ≡ a ++ tables_from ys → new ≡ b ++ tables_from zs →
    new ≡ old ++ tables_from (xs ++ (ys ++ zs))
three old a b new xs ys zs h k l = two old a new xs (ys ++ zs) h (two a b new ys zs k l)

-- the tables of what is done with one more of a list
pub one_more : {A : Type 0} (f : A → Cases) (xs : List A) (i : ℕ) (x : A) (made new all : Tables) → i < length xs → x ≡ get_or xs i x →
    new ≡ made ++ tables_from (f x) → made ++ tables_from (joined (map f (drop i xs))) ≡ all →
    new ++ tables_from (joined (map f (drop (i + 1) xs))) ≡ all
one_more f xs i x made new all within here h k =
    two made new (new ++ tables_from rest) (f x) rest h refl ∙ ap (λ l. made ++ tables_from (joined (map f l))) (sym (at_front xs i x within here)) ∙ k
  where
    rest : Cases
    rest = joined (map f (drop (i + 1) xs))

pub insides : (xs : List ReadAlternative) → inside_of (map choice_of xs) ≡ map inside xs
insides [] = refl
insides (x ∷ xs) = ap (λ l. inside x ∷ l) (insides xs)

pub on_ok : {A E P Q : Type 0} (r : Result A E) → (P → Q) → OnOk r P → OnOk r Q
on_ok (Ok x) f h = f h
on_ok (Err e) f h = h

pub joined_append : {A : Type 0} (f : A → Cases) (xs ys : List A) → joined (map f xs) ++ joined (map f ys) ≡ joined (map f (xs ++ ys))
joined_append f [] ys = refl
joined_append f (x ∷ xs) ys = append_assoc (f x) (joined (map f xs)) (joined (map f ys)) ∙ ap (λ l. f x ++ l) (joined_append f xs ys)

-- the tables of one more declaration
pub one_decl : (ds : List ReadDecl) (i : ℕ) (d : ReadDecl) (made new : Tables) → i < length ds → d ≡ get_or ds i d →
    new ≡ made ++ tables_from (joined (map cases_in (body_of d))) → made ++ tables_from (cases_of (drop i ds)) ≡ tables_from (cases_of ds) →
    new ++ tables_from (cases_of (drop (i + 1) ds)) ≡ tables_from (cases_of ds)
one_decl ds i d made new within here h k =
    two made new (new ++ tables_from rest) (joined (map cases_in (body_of d))) rest h refl
    ∙ ap (λ l. made ++ tables_from (cases_of l)) (sym (at_front ds i d within here)) ∙ k
  where
    rest : Cases
    rest = cases_of (drop (i + 1) ds)

-- ---- the `case`s of a statement, from those of its parts

stmt_is : (x : node.ReadStmt-F ReadAlternative ReadCatcher ReadElseIf ReadOtherwise ReadStmt) →
    cases_in (roll-ReadStmt x)
    ≡ rules.stmt_cases (map-ReadStmt ReadAlternative ReadCatcher ReadElseIf ReadOtherwise ReadStmt Choice Cases Cases Cases Cases choice_of catcher_cases else_if_cases otherwise_cases cases_in x)
stmt_is x =
    fold-roll-ReadStmt Choice Cases Cases Cases Cases rules.alternative_choice rules.catcher_cases rules.else_if_cases rules.otherwise_cases
    rules.stmt_cases x

pub if_is : (span : Span) (c : Expr) (first : List ReadStmt) (others : List ReadElseIf) (last : List ReadStmt) →
    cases_in (rs.If span c first others last) ≡ joined (map cases_in first) ++ (joined (map else_if_cases others) ++ joined (map cases_in last))
unfolding roll-ReadStmt denote.Hole.Carrier.roll
if_is span c first others last = stmt_is (node.If span c first others last)

pub case_is : (span : Span) (e : Expr) (xs : List ReadAlternative) (last : ReadOtherwise) →
    cases_in (rs.Case span e xs last) ≡ case_at span (map choice_of xs) ++ (joined (map inside xs) ++ otherwise_cases last)
unfolding roll-ReadStmt denote.Hole.Carrier.roll
case_is span e xs last =
    stmt_is (node.Case span e xs last) ∙ ap (λ l. case_at span (map choice_of xs) ++ (joined l ++ otherwise_cases last)) (insides xs)

pub try_is : (span : Span) (ss : List ReadStmt) (xs : List ReadCatcher) (last : ReadOtherwise) →
    cases_in (rs.Try span ss xs last) ≡ joined (map cases_in ss) ++ (joined (map catcher_cases xs) ++ otherwise_cases last)
unfolding roll-ReadStmt denote.Hole.Carrier.roll
try_is span ss xs last = stmt_is (node.Try span ss xs last)
