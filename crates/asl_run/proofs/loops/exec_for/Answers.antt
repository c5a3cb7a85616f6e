use Rattle.std.proofs.Common.{◌≡◌, ℕ, true, rules, le_trans}
use Rattle.std.proofs.lemmas.Result.{err_from_is_err_and}
use Rattle.asl_rules.specs.runs.Plans.{Eval}
use Rattle.asl_rules.specs.runs.StatementForms.{limited}
use Rattle.asl_rules.specs.private.TypedMeaning.{BareCore, Runs, acts_of}
use Rattle.asl_rules.specs.values.Values.{Value, Exit}
use Rattle.asl_tree.specs.Acts.{all_acts, maybe_tree}
use Rattle.asl_tree.specs.View.{tree_of}
use Rattle.asl_value.specs.View.{value_of}
use Rattle.asl_branches.specs.View.{core_of, exit_of, room_of}
use Rattle.asl_branches.proofs.Answered.{failed, met, met_eval}
use Rattle.asl_branches.proofs.Room.{fits_more_named, no_less_after, no_less_eval}
use Rattle.asl_run.specs.private.Looping.{between, limit_asked}
use Rattle.asl_run.proofs.Turning.{limit_evaluated}
use Rattle.asl_run.proofs.loops.exec_for.Goals as goal

pub returns-in_err-count : goal.returns-in_err-count
returns-in_err-count g c =
    let h = g.N.Nodes.setting c.args.here.now in
    let it = c.args.it.now in
    let k : Value → Value → ℕ → BareCore → Runs Exit = λ x y. between c.args.span it.direction x y (acts_of (all_acts c.args.body.now)) in
    let x = c.in_ok-eval.field-0 in
    let y = c.in_ok-eval-2.field-0 in
    let p = err_from_is_err_and c.from_residual-in_err-count.result c.from_residual-in_err-count.ensures.1 in
    rw (p.1, p.2) (met_eval exit_of h.funcs.now h.depth (tree_of it.from)
    (λ u c1. Eval (tree_of it.to) c1 (λ v c2. limited c.args.span (maybe_tree it.limit) c2 (k u v))) x _ _ _ _
    c.in_ok-eval.ensures
    (met_eval exit_of h.funcs.now h.depth (tree_of it.to) (λ v c2. limited c.args.span (maybe_tree it.limit) c2
    (k (value_of x) v)) y _ _ _ _ c.in_ok-eval-2.ensures
    (failed (λ n. n) exit_of h.funcs.now h.depth _ _ _ (limit_evaluated h.funcs.now h.depth c.args.span (maybe_tree it.limit)
    (core_of c.eval-2.new.run) (k (value_of x) (value_of y))) _ c.in_err-count.field-0.0 _ _ c.in_err-count.ensures)))

pub for_bounds-requires-clause-room : goal.for_bounds-requires-clause-room
for_bounds-requires-clause-room g c =
    let h = g.N.Nodes.setting c.args.here.now in
    let it = c.args.it.now in
    let first = no_less_eval h it.from _ _ _ c.in_ok-eval.ensures in
    let last = no_less_eval h it.to _ _ _ c.in_ok-eval-2.ensures in
    let count = no_less_after (λ (n : ℕ). n) h (limit_asked c.args.span (maybe_tree it.limit)) _ _ _ c.in_ok-count.ensures in
    fits_more_named true (room_of c.args.run.now) (room_of c.turns_of.new.run) (all_acts c.args.body.now)
    (le_trans first (le_trans last count)) c.requires.room

pub returns : goal.returns
returns g c =
    let h = g.N.Nodes.setting c.args.here.now in
    let it = c.args.it.now in
    let k : Value → Value → ℕ → BareCore → Runs Exit = λ x y. between c.args.span it.direction x y (acts_of (all_acts c.args.body.now)) in
    let x = c.in_ok-eval.field-0 in
    let y = c.in_ok-eval-2.field-0 in
    let here : x ≡ c.get.result.now = search rules in
    let there : y ≡ c.get-2.result.now = search rules in
    met_eval exit_of h.funcs.now h.depth (tree_of it.from) (λ u c1. Eval (tree_of it.to) c1
    (λ v c2. limited c.args.span (maybe_tree it.limit) c2 (k u v))) x _ _ _ _ c.in_ok-eval.ensures
    (met_eval exit_of h.funcs.now h.depth (tree_of it.to) (λ v c2. limited c.args.span (maybe_tree it.limit) c2
    (k (value_of x) v)) y _ _ _ _ c.in_ok-eval-2.ensures
    (met (λ n. n) exit_of h.funcs.now h.depth _ _ _ (limit_evaluated h.funcs.now h.depth c.args.span (maybe_tree it.limit)
    (core_of c.eval-2.new.run) (k (value_of x) (value_of y))) _ c.in_ok-count.count c.for_bounds.result _ _ _
    c.in_ok-count.ensures (rw (here, there) c.for_bounds.ensures)))
