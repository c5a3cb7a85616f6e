use Rattle.std.proofs.Common.{◌≡◌, [], drop}
use Rattle.asl_decl.specs.private.StorageOrder.{storage_after}
use Rattle.asl_decl.proofs.globals.globals_in_order.Given as goal

abbrev pub invariant-loop-number : goal.invariant-loop-number
invariant-loop-number l = storage_after l.ids l.number (drop l.number l.decls) ≡ storage_after [] 0 l.decls
