-- What a statement may take of the function that checks the lists inside it: its contract, at lists in which fewer statements stand.
use Rattle.std.specs.Prelude.{◌≡◌, ◌<◌, ℕ, List, map, Result, OnOk}
use denote.Ref.{Bor, MutBor}
use Rattle.asl_syn.specs.declared.code.Refused.{Refused}
use Rattle.asl_syn.specs.declared.tree.Stmt.{Stmt}
use Rattle.asl_rules.specs.declarations.Scopes.{Entry}
use Rattle.asl_rules.specs.Tests.{Tests}
use Rattle.asl_types.specs.private.Answers.{Met}
use Rattle.asl_types.specs.Suits.{Suits}
use Rattle.asl_blocks.specs.declared.body.Body.{Body}
use Rattle.asl_blocks.specs.declared.body.Listed.{Listed}
use Rattle.asl_blocks.specs.private.Sizes.{stmts_size}
use Rattle.asl_blocks.specs.private.Views.{body_of, listed_of}
use Rattle.asl_blocks.specs.private.Walks.{shut, walk_stmt}

-- it checks lists of fewer than n statements, whose names are visible no more behind them
pub record Blocks (n : ℕ)
    (pre : MutBor (List Entry) → Bor Body → Bor (List Stmt) → Type 0)
    (post : MutBor (List Entry) → Bor Body → Bor (List Stmt) → Result Listed Refused → MutBor (List Entry) → Type 0) : Type 0 where
  pub callable : (names : MutBor (List Entry)) (body : Bor Body) (ss : Bor (List Stmt)) → stmts_size ss.now < n → pre names body ss
  pub rule : (names names1 : MutBor (List Entry)) (body : Bor Body) (ss : Bor (List Stmt)) (r : Result Listed Refused) → post names body ss r names1 →
      (t : Tests) → Suits t → Met (listed_of names.now) r (shut (map (walk_stmt t) ss.now) (body_of names.now body.now))
  pub kept : (names names1 : MutBor (List Entry)) (body : Bor Body) (ss : Bor (List Stmt)) (r : Result Listed Refused) → post names body ss r names1 → OnOk r (names1.now ≡ names.now)
