use Rattle.asl_blocks.proofs.within.check_inside.Goals as goal

pub returns-clause-rule : goal.returns-clause-rule
returns-clause-rule g c = c.requires.blocks.rule _ _ _ _ _ c.list.ensures
