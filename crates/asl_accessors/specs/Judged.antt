-- What comes of a program that is read: the two programs that are judged, written out.
use Rattle.std.specs.Prelude.{◌≡◌, List, [], ◌∷◌, Option, Some, None, Result, Ok, Err, refl}
use Rattle.std.specs.Coded.{Coded, code_by, coded×, coded_list, coded_option}
use Rattle.asl_syn.specs.contracts.tree.Decl.{the_row}
use Rattle.asl_syn.specs.declared.code.Refused.{Refused}
use Rattle.asl_syn.specs.declared.code.Refused.TheVariants.{At, NoMemory}
use Rattle.asl_syn.specs.declared.read.ReadDecl.{ReadDecl}
use Rattle.asl_syn.specs.declared.tree.Decl.{Decl}
use Rattle.asl_rules.specs.declarations.Replacing.{bodies_matched}

-- the declarations with the bodies that may be replaced, and for each of them, or for the first ones, the one that takes its place, if one does
pub record Both : Type 0 where
  pub defaults : List Decl
  pub others : List (Option Decl)

abbrev pub both_code : Coded Both
both_code = code_by (List Decl × List (Option Decl)) (coded× (coded_list the_row.coded) (coded_list (coded_option the_row.coded)))
    (λ b. (b.defaults, b.others)) (λ p. record { defaults = p.0; others = p.1 }) (λ _. refl)

abbrev pub or_default : Decl → Option Decl → Decl
or_default d None = d
or_default d (Some e) = e

-- each declaration, or the one that takes its place
abbrev pub or_defaults : List Decl → List (Option Decl) → List Decl
or_defaults [] os = []
or_defaults (d ∷ ds) [] = d ∷ ds
or_defaults (d ∷ ds) (o ∷ os) = or_default d o ∷ or_defaults ds os

-- the declarations with the bodies that replace others
abbrev pub final_of : Both → List Decl
final_of b = or_defaults b.defaults b.others

-- the answer says whether a body that replaces another has a fault, and which; want of memory says nothing
abbrev pub IsMatched : {A : Type 0} → List ReadDecl → Result A Refused → Type 0
IsMatched ds (Ok x) = bodies_matched ds ≡ Ok tt
IsMatched ds (Err (At f)) = bodies_matched ds ≡ Err f
IsMatched ds (Err NoMemory) = Unit {0}
