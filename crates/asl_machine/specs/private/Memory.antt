-- What is known of the memory of a machine.
use Rattle.std.specs.Prelude.{List}
use Rattle.asl_tree.specs.Sealed.{Sealed}
use Rattle.asl_value.specs.declared.value.Value.{Value}
use Rattle.asl_machine.specs.Storage.{given}
use Rattle.asl_machine.specs.Work.{AreNamed, Arranged, HoldStorage}
use Rattle.asl_machine.specs.declared.memory.Memory.{Memory}

-- the value of each storage in source order
abbrev pub storage_of : Memory → List Value
storage_of m = given m.marks.items m.values.items m.vars.items

abbrev pub arranged : Sealed → Memory → Type 0
arranged c m = Arranged c m.marks.items m.values.items m.vars.items

abbrev pub named : Sealed → Memory → Type 0
named c m = AreNamed c m.vars.items

abbrev pub held : Sealed → Memory → Type 0
held c m = HoldStorage c (storage_of m)
