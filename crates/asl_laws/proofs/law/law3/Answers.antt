use Rattle.asl_laws.proofs.soundness.Soundness.{read_sound}
use Rattle.asl_laws.proofs.law.law3.Goals as goal

pub returns : goal.returns
returns c = read_sound
