use Rattle.asl_machine.proofs.runs.run_trees.Given as goal

-- the sink is noted as it stands before the call
abbrev pub ghosts-call_noted : goal.ghosts-call_noted
ghosts-call_noted g a = record { name = a.sink.ghost_name; told = g.K.Sink.written a.sink.now; full = g.K.Sink.full a.sink.now }
