use Rattle.std.proofs.Common.{◌≡◌, ◌&&◌, List, [], ◌∷◌, map, refl, ap, ◌∙◌}
use Rattle.asl_syn.specs.declared.tree.Stmt.{Stmt}
use Rattle.asl_rules.specs.statements.Falling.{all_fall, falls, falls_through}
use Rattle.asl_falling.proofs.falls.falls_through.Goals as goal

one_by_one : (ss : List Stmt) → all_fall (map falls ss) ≡ falls_through ss
one_by_one [] = refl
one_by_one (s ∷ ss) = ap (λ b. falls s && b) (one_by_one ss)

pub returns : goal.returns
returns c = c.all_fall.ensures ∙ one_by_one c.args.stmts.now
