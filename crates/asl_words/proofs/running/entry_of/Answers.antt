use Rattle.std.proofs.Common.{sym, ◌∙◌}
use Rattle.asl_words.proofs.Decoding.{entry_there}
use Rattle.asl_words.proofs.running.entry_of.Goals as goal

pub unreachable-requires : goal.unreachable-requires
unreachable-requires c = entry_there c.args.checked.now _ _ c.parts-sealed.ensures.sealed c.args.word c.requires (sym c.found_for.ensures ∙ c.in_default.is)
