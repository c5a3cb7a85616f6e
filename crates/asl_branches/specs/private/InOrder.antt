-- The values of expressions in order, as a part of a run.
use Rattle.std.specs.Prelude.{List, []}
use Rattle.asl_rules.specs.runs.Forms as forms
use Rattle.asl_rules.specs.runs.Plans.{Ret}
use Rattle.asl_rules.specs.private.TypedMeaning.{BareCore, Runs, list_of}
use Rattle.asl_rules.specs.values.Values.{Value}
use Rattle.asl_tree.specs.View.{all_trees}
use Rattle.asl_tree.specs.declared.tree.Tree.{Tree}

abbrev pub evaluated : List Tree → BareCore → Runs (List Value)
evaluated es c = forms.eval_all (list_of (all_trees es)) [] c (λ xs c1. Ret xs c1)
