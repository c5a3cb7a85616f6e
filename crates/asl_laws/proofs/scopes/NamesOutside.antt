-- What calls and bodies need of the names outside bodies, be they those of a program or those of a turn: no name is shadowed, and each is
-- clean, so that it mentions no atom, counts as nothing in widths, and isn't the name of a body.
use Rattle.std.proofs.Common.{◌≡◌, ℕ, List, length, Some, sym, ◌∙◌}
use Rattle.asl_syn.specs.declared.tree.Decl.{Decl}
use Rattle.asl_rules.specs.Tests.{Tests}
use Rattle.asl_rules.specs.declarations.Scopes.{Entry, Storage, Stored, Counted, next_atom, standing_of, storage_of}
use Rattle.asl_rules.specs.declarations.Turns.{all_waiting, turns, names_of_program}
use Rattle.asl_rules.specs.private.Worth.{WellCounted}
use Rattle.asl_rules.proofs.basics.Tests.{none_some}
use Rattle.asl_rules.proofs.verdict.SharedNames.{names_once}
use Rattle.asl_rules.proofs.widths.Counting.{stored_of}
use Rattle.asl_laws.specs.Evaluated.{names_after}
use Rattle.asl_laws.specs.ScopeRules.{NoneShadowed}
use Rattle.asl_laws.proofs.scopes.OverScope.{NamesOver}
use Rattle.asl_laws.proofs.scopes.ScopesOver.{AllClean, clean_at, clean_over, clean_atoms, names_clean}
use Rattle.asl_laws.proofs.scopes.ScopeRules.{of_once}

pub record NamesOutside (base : List Entry) : Type 0 where
  pub shadowed : NoneShadowed base
  pub clean : AllClean base

module _ (base : List Entry) (out : NamesOutside base) where
  pub outside_over : (A : ℕ → Type 0) → NamesOver A base
  outside_over A = clean_over A base out.clean

  pub outside_atoms : next_atom base ≡ 0
  outside_atoms = clean_atoms base out.clean

  none_counts : {B : Type 0} (name : List ℕ) (s : Storage) (c : Counted) → storage_of name base ≡ Some s → s.counted ≡ Some c → B
  none_counts name s c h k = none_some c (sym (clean_at name base (Stored s) out.clean (stored_of (standing_of name base) s h)).0 ∙ k)

  pub outside_counted : WellCounted base
  outside_counted = record {
    alone = λ name s c h k. none_counts name s c h k;
    within = λ name s c h k. none_counts name s c h k;
    unknown = λ name s c h k. none_counts name s c h k;
  }

-- the names of a turn
pub turn_outside : (t : Tests) (n : ℕ) (ds : List Decl) → NamesOutside (names_after t n ds)
turn_outside t n ds = record {
  shadowed = of_once (names_after t n ds) (names_once ds (turns t n ds (all_waiting ds)));
  clean = names_clean t n ds;
}

-- those of a program are those of its last
pub program_outside : (t : Tests) (ds : List Decl) → NamesOutside (names_of_program t ds)
program_outside t ds = turn_outside t (length ds) ds
