-- From the reader's outcome to what the grammar says.
use Rattle.std.proofs.Common.{◌≡◌, Bool, ap, sym, ◌∙◌, arith, ℕ, suc, List, Ok, Err, refl}
use Rattle.asl_syn.specs.declared.read.ReadDecl.{ReadDecl}
use Rattle.asl_grammar.specs.grammar.Cursor.{Lexeme}
use Rattle.asl_grammar.specs.declared.error.ParseError.{ParseError}
use Rattle.asl_grammar.specs.declared.error.ParseError.TheVariants.{OutOfMemory, Syntax, TooDeep}
use Rattle.asl_grammar.specs.grammar.Reader.{parse, Outcome}
use Rattle.asl_grammar.specs.grammar.Rules.{Sym, Val, rule, after, Program}
use Rattle.asl_grammar.specs.grammar.Syntax.{start}
use Rattle.asl_grammar.specs.grammar.Language.{Opener, Answers, without_end, outcome}
use Rattle.asl_grammar.proofs.grammar.Symbols.{parsed_tree, tree_parsed, one_tree, parsed_syntax, parsed_deep, parsed_full, stops_n}
use Rattle.asl_grammar.proofs.grammar.Checked.{each, covered}

answers_err : (levels : ℕ) (ts : List Lexeme) (e : ParseError) → outcome levels ts ≡ Err e → Answers levels ts (Err e)
answers_err levels ts OutOfMemory h = tt
answers_err levels ts (Syntax n) h = (
  parsed_syntax Sym Val rule after each covered Program levels ts n h,
  λ w k. let q : outcome levels ts ≡ Ok (w, k.1) = tree_parsed Sym Val rule after each covered Program levels ts w k in cc,
)
answers_err levels ts (TooDeep n y) h = (
  parsed_deep Sym Val rule after each covered Program levels ts n y h,
  (let f = parsed_full Sym Val rule after each covered Program levels ts n y h in (f.0, f.1, f.2, f.3, f.4, (suc levels, f.5))),
  λ w k. let q : outcome levels ts ≡ Ok (w, k.1) = tree_parsed Sym Val rule after each covered Program levels ts w k in cc,
)

answers_of : (levels : ℕ) (ts : List Lexeme) (o : Outcome (List ReadDecl)) → outcome levels ts ≡ o → Answers levels ts (without_end o)
answers_of levels ts (Ok r) h =
    let t = parsed_tree Sym Val rule after each covered Program levels ts r.0 r.1 h in
    (t, λ w k. one_tree Sym Val rule after each covered Program levels ts r.0 w t k)
answers_of levels ts (Err e) h = answers_err levels ts e h

pub answered : (levels : ℕ) (ts : List Lexeme) → Answers levels ts (without_end (outcome levels ts))
answered levels ts = answers_of levels ts (outcome levels ts) refl

pub opener_stops : (levels : ℕ) (ts : List Lexeme) (n : ℕ) (y : Bool) → Opener levels ts n y → parse Sym Val rule (suc levels) Program (start levels ts) ≡ Err (TooDeep n y)
opener_stops levels ts n y o =
    ap (λ z. parse Sym Val rule (suc levels) Program (start levels z)) o.3
    ∙ stops_n Sym Val rule after each covered o.5.0 (suc levels) y o.1 o.2 Program (start levels o.0) (omega arith) o.5.1
    ∙ ap (λ k. Err (TooDeep k y)) o.4

same_fault : {A : Type 0} {m n : ℕ} {y z : Bool} → (let o : Outcome A = Err (TooDeep m y) in o) ≡ Err (TooDeep n z) → (m ≡ n) × (y ≡ z)
same_fault h = (cc, cc)

pub one_opener_is : (levels : ℕ) (ts : List Lexeme) (m n : ℕ) (y z : Bool) → Opener levels ts m y → Opener levels ts n z → (m ≡ n) × (y ≡ z)
one_opener_is levels ts m n y z o p = same_fault {A = List ReadDecl} (sym (opener_stops levels ts m y o) ∙ opener_stops levels ts n z p)
