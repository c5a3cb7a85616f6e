use Rattle.asl_value.proofs.supers.Branch.+has.Given as goal

abbrev pub decreases-has : goal.decreases-has
decreases-has l = goal.size-has l
