use Rattle.std.proofs.Common.{◌*◌, ap, sym, ◌∙◌}
use Rattle.asl_types.proofs.NumberLemmas.{atoms}
use Rattle.asl_types.proofs.scope.Scope.next_atom.Goals as goal

pub returns : goal.returns
returns c = c.atom_behind.ensures ∙ ap (λ n. 2 * n) c.numbers.ensures.locals ∙ sym (atoms c.args.self.now)
