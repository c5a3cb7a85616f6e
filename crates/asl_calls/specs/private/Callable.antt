-- What a test has to know of a program to call its `main`.
use Rattle.std.specs.Prelude.{◌≡◌, ℕ, [], Some}
use Rattle.asl_rules.specs.Tests.{Tests}
use Rattle.asl_types.specs.Suits.{Suits}
use Rattle.asl_tree.specs.Sealed.{Sealed}
use Rattle.asl_machine.specs.Work.{IsCallable}

-- its entry, where it has one, can be called with nothing
abbrev pub HasCallableMain : Sealed → Type 0
HasCallableMain c = (t : Tests) → Suits t → (id : ℕ) → c.entries.main ≡ Some id → IsCallable t c id []
