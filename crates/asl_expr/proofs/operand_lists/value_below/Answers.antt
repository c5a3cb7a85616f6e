use Rattle.asl_expr.proofs.Values.{value_met}
use Rattle.asl_expr.proofs.operand_lists.value_below.Goals as goal

pub returns : goal.returns
returns g c t s = value_met t _ _ _ _ _ c.field_parts.ensures (c.operand_below.ensures t s)
