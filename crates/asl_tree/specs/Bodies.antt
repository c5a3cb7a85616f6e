-- What contracts see of the body of a subprogram.
use Rattle.std.specs.Prelude.{ℕ, List, refl}
use Rattle.std.specs.Coded.{Coded, code_by, coded×, coded_ℕ, coded_list}
use Rattle.asl_tree.specs.declared.act.Act.{Act}
use Rattle.asl_tree.specs.contracts.act.Act.{the_row}

-- its statements, and how many slots of a frame the names that they declare need
pub record BodyView : Type 0 where
  pub list : List Act
  pub slots : ℕ

abbrev pub body_code : Coded BodyView
body_code = code_by (List Act × ℕ) (coded× (coded_list the_row.coded) coded_ℕ) (λ b. (b.list, b.slots)) (λ p. record { list = p.0; slots = p.1 }) (λ _. refl)
