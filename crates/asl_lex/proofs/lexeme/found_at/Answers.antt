use Rattle.std.proofs.Common.{sym, ◌∙◌, arith}
use Rattle.asl_lex.proofs.Finding.{finds_name}
use Rattle.asl_lex.proofs.lexeme.found_at.Goals as goal

pub returns-then-is_name_start : goal.returns-then-is_name_start
returns-then-is_name_start c =
    finds_name c.args.bytes.now c.name_len-len.result c.kind_of_name.result (omega (arith, c.in-len1-up.len_at_least)) (sym c.if-is_name_start.true ∙ c.is_name_start.ensures) c.name_len-len.ensures.len c.kind_of_name.ensures.kind c.kind_of_name.ensures.small c.requires
