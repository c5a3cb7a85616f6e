-- What is called, and what comes with what it gives.
use Rattle.std.proofs.Common.{◌≡◌, ℕ, ◌≤◌, true, List, [], ◌∷◌, length, Option, arith}
use Rattle.std.proofs.lemmas.Int.{ints}
use Rattle.std.proofs.lemmas.List.{length-reverse}
use Rattle.std.specs.Prelude.{ℤ, pos, negsuc, ◌<ℤ◌, reverse}
use Rattle.asl_rules.specs.runs.Forms as forms
use Rattle.asl_rules.specs.runs.Plans.{follow}
use Rattle.asl_rules.specs.values.Operators.{less}
use Rattle.asl_rules.specs.private.TypedMeaning.{BareCore, Runs, list_of}
use Rattle.asl_rules.specs.values.Values.{Value}
use Rattle.asl_tree.specs.View.{all_trees}
use Rattle.asl_tree.specs.declared.act.TreeFunc.{TreeFunc}
use Rattle.asl_branches.proofs.Turns.{Goes, all_goes}
use Rattle.asl_run.specs.declared.calls.Call.{Call}
use Rattle.asl_run.specs.private.Calling.{body_of, call_given}
use Rattle.asl_run.proofs.Lefts.{goes_follow}

pub call_goes : {A : Type 0} (fs : List TreeFunc) (d : ℕ) (a : Call) (c : BareCore) (k : Option Value → BareCore → Runs A) →
    Goes fs d (call_given fs a c) (forms.call (list_of (all_trees a.params.now)) (list_of (all_trees a.args.now)) c (body_of fs a) k) k
call_goes fs d a c k =
    let args = list_of (all_trees a.args.now) in
    all_goes fs d (list_of (all_trees a.params.now)) [] c (λ ys c1. forms.eval_all args [] c1 (body_of fs a ys))
    (λ ys c1. forms.eval_all args [] c1 (λ xs c2. follow (body_of fs a ys xs c2) k)) k
    (λ ys c1. all_goes fs d args [] c1 (body_of fs a ys) (λ xs c2. follow (body_of fs a ys xs c2) k) k
    (λ xs c2. goes_follow fs d (body_of fs a ys xs c2) k))

-- a subprogram is active at most as often as any is
active_within : (id : ℕ) (ns : List ℕ) → forms.activations id ns ≤ length ns
active_within id [] = omega arith
active_within id (n ∷ ns) = grind (arith, active_within id ns)

-- where fewer are active than its limit, it has room
pub few_active : (id : ℕ) (live : List ℕ) (limit : ℤ) → pos (length live) <ℤ limit →
    true ≡ less (pos (forms.activations id (reverse live))) limit
few_active id live (pos n) h = grind (arith, ints, active_within id (reverse live), length-reverse live)
few_active id live (negsuc n) h = absurd (grind (arith, ints))
