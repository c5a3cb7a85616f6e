use Rattle.std.proofs.Common.{◌≡◌, ◌+◌, ◌<◌, ◌^◌, drop}
use Rattle.asl_tree.specs.private.Room.{parts_taken}
use Rattle.asl_tree.proofs.slots.parts.Given as goal

abbrev pub invariant-loop-part : goal.invariant-loop-part
invariant-loop-part l = record {
  rest : l.count + parts_taken (drop l.part-index l.taken) ≡ parts_taken l.taken;
  fits : l.count < 2 ^ 32;
}
