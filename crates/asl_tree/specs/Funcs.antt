-- The typed trees of subprograms of the rules that those of the code stand for.
use Rattle.std.specs.Prelude.{List, map}
use Rattle.asl_rules.specs.runs.Trees as rules
use Rattle.asl_tree.specs.Acts.{all_acts}
use Rattle.asl_tree.specs.declared.act.TreeFunc.{TreeFunc}

abbrev pub func_of : TreeFunc → rules.TreeFunc
func_of f = record { span = f.span; params = f.params; formals = f.formals; result = f.result; limit = f.limit; body = all_acts f.body.list }

abbrev pub all_funcs : List TreeFunc → List rules.TreeFunc
all_funcs fs = map func_of fs
