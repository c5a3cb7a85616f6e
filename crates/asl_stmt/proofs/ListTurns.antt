-- Lists of statements: one turn more of their loop, and their ends.
use Rattle.std.proofs.Common.{◌≡◌, ℕ, ◌+◌, ◌<◌, length, get_or, drop, List, [], ◌∷◌, ◌++◌, map, Result, Ok, take, sym, ap, ◌∙◌}
use Rattle.asl_syn.specs.declared.code.Fault.{Fault}
use Rattle.asl_rules.specs.declared.effect.Effect.{Effect}
use Rattle.asl_rules.specs.Faults.{◌>>=◌}
use Rattle.asl_rules.specs.types.Effects.{greater}
use Rattle.asl_rules.specs.runs.Trees.{Act}
use Rattle.asl_rules.specs.declarations.Scopes.{Body, Entry, body_names}
use Rattle.asl_rules.specs.statements.Acting.{FoundStmt, done, listed}
use Rattle.asl_rules.specs.declared.effect.Effect.TheVariants.{Pure}
use Rattle.asl_rules.specs.Tests.{Tests}
use Rattle.asl_syn.specs.declared.tree.Stmt.{Stmt}
use Rattle.asl_tree.specs.Acts.{acts_from}
use Rattle.asl_blocks.specs.private.Walks.{after, Listing, listing, stmt_step, shut, walk_stmt}
use Rattle.asl_blocks.proofs.Chains.{after_mapped, then_then}
use Rattle.asl_stmt.proofs.Walked.{in_order_is, cut_back}

pub list_loop : {X : Type 0} (found : X → FoundStmt) (B : Body) (ss : List X) (k : ℕ) (s : X) (names more : List Entry) (e e1 l : Effect) (acts acts1 : List Act) (act : Act) (all : Result Listing Fault) → k < length ss → s ≡ get_or ss k s →
    found s (body_names B names) ≡ Ok (done more e act) → l ≡ greater e1 e → acts1 ≡ acts ++ act ∷ [] →
    after (stmt_step B) (map found (drop k ss)) (listing names e1 acts) ≡ all → after (stmt_step B) (map found (drop (k + 1) ss)) (listing more l acts1) ≡ all
list_loop found B ss k s names more e e1 l acts acts1 act all within here h g m inv =
    after_mapped (stmt_step B) found ss k s (listing names e1 acts) (listing more l acts1) all within here
    (ap (λ r. r >>= λ d. Ok (listing d.names (greater e1 d.effect) (acts ++ d.act ∷ []))) h ∙ λ i. Ok (listing more (sym g i) (sym m i)))
    inv

-- ---- the end of a list

-- a list whose names are visible no more, statement by statement
pub shut_by : (B : Body) (ss : List FoundStmt) → shut ss B ≡ (after (stmt_step B) ss (listing B.scope.names Pure []) >>= λ x. Ok (listed B.scope.names x.effect (acts_from x.acts)))
shut_by B ss =
    ap (λ r. r >>= λ l. Ok (listed B.scope.names l.effect l.acts)) (in_order_is B ss Pure)
    ∙ then_then (after (stmt_step B) ss (listing B.scope.names Pure [])) (λ x. Ok (listed x.names x.effect (acts_from x.acts))) (λ l. Ok (listed B.scope.names l.effect l.acts))

-- the names before a list stand at the beginning of those behind it
pub cut_listing : (t : Tests) (ss : List Stmt) (B : Body) (x : Listing) → after (stmt_step B) (map (walk_stmt t) ss) (listing B.scope.names Pure []) ≡ Ok x → take (length B.scope.names) x.names ≡ B.scope.names
cut_listing t ss B x h =
    cut_back t ss Pure B (listed x.names x.effect (acts_from x.acts)) (in_order_is B (map (walk_stmt t) ss) Pure ∙ ap (λ r. r >>= λ y. Ok (listed y.names y.effect (acts_from y.acts))) h)
