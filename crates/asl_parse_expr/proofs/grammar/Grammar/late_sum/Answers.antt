use Rattle.std.proofs.Common.{◌≡◌, ◌∙◌, true, [], ◌∷◌, Ok, ap, sym, rules, arith}
use Rattle.std.proofs.lemmas.Grind.{common_steps}
use Rattle.asl_grammar.specs.declared.kinds.Kind.TheVariants as kind
use Rattle.asl_grammar.specs.grammar.Rules.{sum_rests, unary}
use Rattle.asl_syn.specs.declared.tree.Expr.TheVariants as ex
use Rattle.asl_grammar.specs.grammar.Build.{chained}
use Rattle.asl_grammar.specs.grammar.Cursor.{span_to}
use Rattle.asl_grammar.specs.grammar.Reader.{bind}
use Rattle.asl_parse_expr.specs.private.Code.{charge, cursor_of, reading, then}
use Rattle.asl_parse_expr.proofs.Tails.{late_sum_is, late_sum_rest, stopped}
use Rattle.asl_parse_expr.proofs.grammar.Grammar.late_sum.Goals as goal

pub returns : goal.returns
unfolding then
returns g c =
    let e = late_sum_is c.args.self.now.depth c.args.from c.args.operator (cursor_of c.args.tokens.now) in
    first_of (search rules, grind (arith, common_steps))

pub returns-in_err-whole-2 : goal.returns-in_err-whole-2
returns-in_err-whole-2 g c =
    let d = c.args.self.now.depth in
    let st = cursor_of c.args.tokens.now in
    let m = cursor_of c.charge.new.self in
    let m1 = cursor_of c.unary.new.tokens in
    let h : charge (kind.Minus ∷ kind.Bang ∷ kind.Not ∷ kind.IntegerLiteral ∷ kind.BitsLiteral ∷ kind.True ∷ kind.False ∷ kind.OpenParen ∷ kind.Name ∷ kind.Getter ∷ kind.Setter ∷ []) true st ≡ Ok (tt, m) = search rules in
    let k : reading d unary m ≡ Ok (c.in_ok-operand.operand, m1) = search rules in
    let e = late_sum_rest d c.args.from c.args.operator st m m1 c.in_ok-operand.operand h k in
    let w : c.in_ok-whole.whole ≡ ex.Unary (span_to c.args.from m1.last) c.args.operator c.in_ok-operand.operand = search rules in
    let from = c.args.from in
    stopped _ (then (chained from c.in_ok-whole.whole) (reading d sum_rests m1)) (λ x end. Ok (x, record end { left = st.left })) c.from_residual-in_err-whole-2.result c.in_err-whole-2.field-0.0 (cursor_of c.sum_rests.new.tokens)
    c.in_err-whole-2.ensures c.from_residual-in_err-whole-2.ensures.1 (e ∙ ap (λ x. bind (then (chained from x) (reading d sum_rests m1)) (λ x end. Ok (x, record end { left = st.left }))) (sym w))
