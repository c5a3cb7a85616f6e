use Rattle.std.proofs.Common.{ap, ◌∙◌}
use Rattle.asl_grammar.specs.grammar.Cursor.{among, with_text}
use Rattle.asl_grammar.specs.grammar.Operators.{binary_kinds}
use Rattle.asl_parse_expr.specs.private.Code.{cursor_of}
use Rattle.asl_parse_expr.proofs.Opened.{is_operator}
use Rattle.asl_parse_expr.proofs.tokens.Tokens.operator.Goals as goal

pub binary_of-requires : goal.binary_of-requires
binary_of-requires c =
    let old = cursor_of c.args.self.now in
    let token = with_text c.args.self.now.bytes.now c.in_ok-token.token in
    ap (among binary_kinds) c.kind_of.ensures ∙ is_operator binary_kinds c.args.kinds.now old.left old.toks token (cursor_of c.open_any.new.self) c.requires c.in_ok-token.ensures
