use Rattle.std.proofs.Common.{◌≡◌, drop}
use Rattle.asl_cons.specs.Arithmetic.{each_part, modulo_part}
use Rattle.asl_cons.specs.Operator.{onto}
use Rattle.asl_cons.proofs.arithmetic.by_moduli.Given as goal

abbrev pub invariant-loop-q : goal.invariant-loop-q
invariant-loop-q l = onto l.made.items (each_part modulo_part (drop l.q-index l.qs)) ≡ each_part modulo_part l.qs
