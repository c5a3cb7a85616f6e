use Rattle.std.proofs.Common.{sym, ◌∙◌}
use Rattle.asl_types.proofs.Seen.{unseen}
use Rattle.asl_run.proofs.acts_at_once.gives_fields.Goals as goal

pub returns-in-Some : goal.returns-in-Some
returns-in-Some c = λ bare x. rw c.in-Some.is (unseen c.in-Some.ty (sym c.holds_bits.ensures ∙ bare) x)
