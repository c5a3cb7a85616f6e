use Rattle.std.proofs.Common.{rules, arith, ◌∷◌, []}
use Rattle.std.proofs.lemmas.Grind.{common_steps}
use Rattle.asl_grammar.specs.declared.kinds.Kind.TheVariants as kind
use Rattle.asl_grammar.specs.grammar.Rules.{statement}
use Rattle.asl_parse_expr.specs.private.Code.{cursor_of, reading}
use Rattle.asl_parse_expr.proofs.Loops.{run_items, one_more}
use Rattle.asl_parse_stmt.proofs.StatementSteps.{if_statement_nests, case_statement_nests, for_statement_nests, while_statement_nests, repeat_statement_nests, try_statement_nests}
use Rattle.asl_parse_stmt.proofs.Steps.{statement_is, block_is}
use Rattle.asl_parse_stmt.proofs.statements.+statements.Goals as goal

pub block-loop-turn-preserved : goal.block-loop-turn-preserved
block-loop-turn-preserved t c =
    let e = one_more (λ n. run_items (reading c.args.depth statement) (kind.Pass ∷ kind.Unreachable ∷ kind.Assert ∷ kind.Let ∷ kind.Var ∷ kind.Minus ∷ kind.OpenParen ∷ kind.Return ∷ kind.Throw ∷ kind.Print ∷ kind.PrintLine ∷ kind.Name ∷ kind.Getter ∷ kind.Setter ∷ kind.If ∷ kind.Case ∷ kind.For ∷ kind.While ∷ kind.Repeat ∷ kind.Try ∷ []) n c.loop-turn.found (cursor_of c.loop-turn.tokens)) _ c.loop-turn._turn c.loop-turn-test.true c.loop-turn.invariant in
    first_of (search rules, grind (arith, common_steps))

pub if_statement-returns-in_err-depth : goal.if_statement-returns-in_err-depth
if_statement-returns-in_err-depth t c =
    let e = if_statement_nests c.args.depth (cursor_of c.args.tokens.now) in
    first_of (search rules, grind (arith, common_steps))

pub if_statement-returns-in_err-condition : goal.if_statement-returns-in_err-condition
if_statement-returns-in_err-condition t c =
    let e = if_statement_nests c.args.depth (cursor_of c.args.tokens.now) in
    first_of (search rules, grind (arith, common_steps))

pub if_statement-returns : goal.if_statement-returns
if_statement-returns t c =
    let e = if_statement_nests c.args.depth (cursor_of c.args.tokens.now) in
    first_of (search rules, grind (arith, common_steps))

pub case_statement-returns-in_err-depth : goal.case_statement-returns-in_err-depth
case_statement-returns-in_err-depth t c =
    let e = case_statement_nests c.args.depth (cursor_of c.args.tokens.now) in
    first_of (search rules, grind (arith, common_steps))

pub case_statement-returns-in_err-subject : goal.case_statement-returns-in_err-subject
case_statement-returns-in_err-subject t c =
    let e = case_statement_nests c.args.depth (cursor_of c.args.tokens.now) in
    first_of (search rules, grind (arith, common_steps))

pub case_statement-returns : goal.case_statement-returns
case_statement-returns t c =
    let e = case_statement_nests c.args.depth (cursor_of c.args.tokens.now) in
    first_of (search rules, grind (arith, common_steps))

pub for_statement-returns-in_err-depth : goal.for_statement-returns-in_err-depth
for_statement-returns-in_err-depth t c =
    let e = for_statement_nests c.args.depth (cursor_of c.args.tokens.now) in
    first_of (search rules, grind (arith, common_steps))

pub for_statement-returns-in_err-name : goal.for_statement-returns-in_err-name
for_statement-returns-in_err-name t c =
    let e = for_statement_nests c.args.depth (cursor_of c.args.tokens.now) in
    first_of (search rules, grind (arith, common_steps))

pub for_statement-returns : goal.for_statement-returns
for_statement-returns t c =
    let e = for_statement_nests c.args.depth (cursor_of c.args.tokens.now) in
    first_of (search rules, grind (arith, common_steps))

pub while_statement-returns-in_err-depth : goal.while_statement-returns-in_err-depth
while_statement-returns-in_err-depth t c =
    let e = while_statement_nests c.args.depth (cursor_of c.args.tokens.now) in
    first_of (search rules, grind (arith, common_steps))

pub while_statement-returns-in_err-condition : goal.while_statement-returns-in_err-condition
while_statement-returns-in_err-condition t c =
    let e = while_statement_nests c.args.depth (cursor_of c.args.tokens.now) in
    first_of (search rules, grind (arith, common_steps))

pub while_statement-returns : goal.while_statement-returns
while_statement-returns t c =
    let e = while_statement_nests c.args.depth (cursor_of c.args.tokens.now) in
    first_of (search rules, grind (arith, common_steps))

pub repeat_statement-returns-in_err-depth : goal.repeat_statement-returns-in_err-depth
repeat_statement-returns-in_err-depth t c =
    let e = repeat_statement_nests c.args.depth (cursor_of c.args.tokens.now) in
    first_of (search rules, grind (arith, common_steps))

pub repeat_statement-returns-in_err-body : goal.repeat_statement-returns-in_err-body
repeat_statement-returns-in_err-body t c =
    let e = repeat_statement_nests c.args.depth (cursor_of c.args.tokens.now) in
    first_of (search rules, grind (arith, common_steps))

pub repeat_statement-returns : goal.repeat_statement-returns
repeat_statement-returns t c =
    let e = repeat_statement_nests c.args.depth (cursor_of c.args.tokens.now) in
    first_of (search rules, grind (arith, common_steps))

pub try_statement-returns-in_err-depth : goal.try_statement-returns-in_err-depth
try_statement-returns-in_err-depth t c =
    let e = try_statement_nests c.args.depth (cursor_of c.args.tokens.now) in
    first_of (search rules, grind (arith, common_steps))

pub try_statement-returns-in_err-body : goal.try_statement-returns-in_err-body
try_statement-returns-in_err-body t c =
    let e = try_statement_nests c.args.depth (cursor_of c.args.tokens.now) in
    first_of (search rules, grind (arith, common_steps))

pub try_statement-returns : goal.try_statement-returns
try_statement-returns t c =
    let e = try_statement_nests c.args.depth (cursor_of c.args.tokens.now) in
    first_of (search rules, grind (arith, common_steps))

pub statement-returns-in_err-simple_statement : goal.statement-returns-in_err-simple_statement
statement-returns-in_err-simple_statement t c =
    let e = statement_is c.args.depth (cursor_of c.args.tokens.now) in
    first_of (search rules, grind (arith, common_steps))

pub statement-returns-in_ok-simple_statement : goal.statement-returns-in_ok-simple_statement
statement-returns-in_ok-simple_statement t c =
    let e = statement_is c.args.depth (cursor_of c.args.tokens.now) in
    first_of (search rules, grind (arith, common_steps))

pub statement-returns-then-starts-2 : goal.statement-returns-then-starts-2
statement-returns-then-starts-2 t c =
    let e = statement_is c.args.depth (cursor_of c.args.tokens.now) in
    first_of (search rules, grind (arith, common_steps))

pub statement-returns-then-starts-3 : goal.statement-returns-then-starts-3
statement-returns-then-starts-3 t c =
    let e = statement_is c.args.depth (cursor_of c.args.tokens.now) in
    first_of (search rules, grind (arith, common_steps))

pub statement-returns-then-starts-4 : goal.statement-returns-then-starts-4
statement-returns-then-starts-4 t c =
    let e = statement_is c.args.depth (cursor_of c.args.tokens.now) in
    first_of (search rules, grind (arith, common_steps))

pub statement-returns-then-starts-5 : goal.statement-returns-then-starts-5
statement-returns-then-starts-5 t c =
    let e = statement_is c.args.depth (cursor_of c.args.tokens.now) in
    first_of (search rules, grind (arith, common_steps))

pub statement-returns-then-starts-6 : goal.statement-returns-then-starts-6
statement-returns-then-starts-6 t c =
    let e = statement_is c.args.depth (cursor_of c.args.tokens.now) in
    first_of (search rules, grind (arith, common_steps))

pub statement-returns-then-starts-7 : goal.statement-returns-then-starts-7
statement-returns-then-starts-7 t c =
    let e = statement_is c.args.depth (cursor_of c.args.tokens.now) in
    first_of (search rules, grind (arith, common_steps))

pub statement-returns-else-starts-7 : goal.statement-returns-else-starts-7
statement-returns-else-starts-7 t c =
    let e = statement_is c.args.depth (cursor_of c.args.tokens.now) in
    first_of (search rules, grind (arith, common_steps))

pub block-loop-turn-init : goal.block-loop-turn-init
block-loop-turn-init t c =
    let e = block_is c.args.depth (cursor_of c.args.tokens.now) in
    first_of (search rules, grind (arith, common_steps))
