use Rattle.asl_value.proofs.supers.Branch.+is_at.Given as goal

abbrev pub decreases-is_at : goal.decreases-is_at
decreases-is_at l = goal.size-is_at l
