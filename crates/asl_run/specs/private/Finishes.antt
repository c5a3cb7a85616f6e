-- What is done with the value of one expression, and what a variable begins with.
use Rattle.std.specs.Prelude.{ℕ, Bool, List, Some}
use Rattle.asl_bits.specs.declared.TheConstants.{WIDTH_LIMIT}
use Rattle.asl_syn.specs.declared.token.Span.{Span}
use Rattle.asl_rules.specs.values.Operators.{truth}
use Rattle.asl_rules.specs.runs.Plans.{Ret, choose, lift, Pure, Good}
use Rattle.asl_rules.specs.runs.Pures.{◌>>=◌}
use Rattle.asl_rules.specs.runs.StatementForms.{done_normal, asserted, thrown}
use Rattle.asl_rules.specs.runs.Trees.{in_parts}
use Rattle.asl_rules.specs.private.TypedMeaning.{BareCore, Runs, declared, declared_first, parts_taken, taken, with_next}
use Rattle.asl_rules.specs.values.Values.{Value, Exit, Returned}
use Rattle.asl_rules.specs.types.Written.{filled}
use Rattle.asl_shape.specs.View.{type_of}
use Rattle.asl_tree.specs.Acts.{taken_of}
use Rattle.asl_tree.specs.private.Room.{names_taken}
use Rattle.asl_run.specs.declared.finishes.After.{After}
use Rattle.asl_run.specs.declared.finishes.After.TheVariants as after
use Rattle.asl_run.specs.declared.finishes.First.{First}

abbrev pub finished : After → Value → BareCore → Runs Exit
finished (after.Assert span) x c = lift (truth span x) c (λ b. choose b (done_normal c) (asserted span c))
finished (after.Declare span T b) x c = lift (declared span T.now (taken_of b.now) x c) c done_normal
finished after.Return x c = Ret (Returned (Some x)) c
finished (after.Throw span) x c = thrown span x c

-- how many names get a value
abbrev pub named_after : After → ℕ
named_after (after.Assert span) = 0
named_after (after.Declare span T b) = names_taken (taken_of b.now)
named_after after.Return = 0
named_after (after.Throw span) = 0

-- so many names, each with the first value of the type
abbrev pub begun : First → List Value → BareCore → Runs Exit
begun f zs c = lift (declared_first f.span f.count (filled WIDTH_LIMIT f.whole (type_of f.shape.now) zs) c) c done_normal

-- parts of a tuple that have a name, each in the next place
abbrev pub parts_pushed : Span → List Bool → List Value → BareCore → Pure BareCore
parts_pushed span bs xs c = parts_taken span bs xs >>= λ ys. Good (with_next ys c)

-- and those of a value
abbrev pub tuple_pushed : Span → List Bool → Value → BareCore → Pure BareCore
tuple_pushed span bs x c = taken span (in_parts bs) x >>= λ ys. Good (with_next ys c)
