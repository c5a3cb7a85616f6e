use Rattle.std.proofs.Common.{rules, arith, ◌≡◌, ◌∷◌, [], ◌+◌, ◌≤◌, Ok}
use Rattle.asl_syn.specs.declared.tree.Expr.{Expr}
use Rattle.asl_grammar.specs.grammar.Cursor.{with_text}
use Rattle.asl_grammar.specs.declared.kinds.Kind.TheVariants as kind
use Rattle.asl_grammar.specs.grammar.Reader.{run_opens}
use Rattle.asl_grammar.specs.grammar.Rules.{IfParts}
use Rattle.asl_parse_expr.specs.private.Code.{cursor_of, symbol}
use Rattle.asl_parse_expr.proofs.Rooms.{if_room}
use Rattle.asl_parse_expr.proofs.grammar.Grammar.conditional.Goals as goal

pub prove-unreachable-requires : goal.prove-unreachable-requires
prove-unreachable-requires g c =
    let at = cursor_of c.args.tokens.now in
    let token = with_text c.args.tokens.now.bytes.now c.in_ok-open.field-0 in
    let inside = cursor_of c.open.new.self in
    let end = cursor_of c.value.new.tokens in
    let parts : Expr × Expr × Expr = (c.in-Branches.first, c.in-Branches.second, c.in-Branches.third) in
    let h : run_opens (kind.If ∷ []) at.left at.toks ≡ Ok (token, inside) = search rules in
    let k : symbol c.args.self.now.depth IfParts inside ≡ Ok (parts, end) = search rules in
    let room : end.left + 1 ≤ at.left = if_room (kind.If ∷ []) at.left at.toks token inside c.args.self.now.depth parts end h k in
    let more : at.left ≤ end.left = c.if-prove.true in
    omega (arith, room, more)
