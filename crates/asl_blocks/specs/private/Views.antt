-- What the answers of the checker stand for, and what a body is judged in.
use Rattle.std.specs.Prelude.{List, map, Option}
use Rattle.std.specs.Option.{option_map}
use Rattle.asl_rules.specs.statements.Acting as acting
use Rattle.asl_rules.specs.declarations.Scopes as scopes
use Rattle.asl_rules.specs.expressions.Typing as typing
use Rattle.asl_tree.specs.declared.tree.Tree.{Tree}
use Rattle.asl_tree.specs.View.{operand_of}
use Rattle.asl_tree.specs.Acts.{act_of, all_acts, last_of}
use Rattle.asl_blocks.specs.declared.body.Body.{Body}
use Rattle.asl_blocks.specs.declared.body.Done.{Done}
use Rattle.asl_blocks.specs.declared.body.Listed.{Listed}
use Rattle.asl_blocks.specs.declared.body.LastListed.{LastListed}
use Rattle.asl_blocks.specs.private.Walks.{Listing, listing}

-- what a body is judged in
abbrev pub body_of : List scopes.Entry → Body → scopes.Body
body_of names b = record { scope = record { names = names; subs = b.subs.now; class = b.class }; result = b.result; handles = b.handles }

-- ---- statements and lists

abbrev pub done_of : List scopes.Entry → Done → acting.Done
done_of names d = acting.done names d.effect (act_of d.act)

abbrev pub listing_of : List scopes.Entry → Listed → Listing
listing_of names l = listing names l.effect (map act_of l.acts)

abbrev pub listed_of : List scopes.Entry → Listed → acting.Listed
listed_of names l = acting.listed names l.effect (all_acts l.acts)

abbrev pub last_listed_of : LastListed → acting.LastListed
last_listed_of l = record { effect = l.effect; last = last_of l.last }

-- ---- expressions

abbrev pub maybe_operand : Option Tree → Option typing.Operand
maybe_operand o = option_map operand_of o
