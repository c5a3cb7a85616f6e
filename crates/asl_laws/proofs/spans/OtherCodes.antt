-- The codes of rules but T04, which is that of evaluations alone; types that don't fit, or don't go together, have such codes.
use Rattle.std.specs.Prelude.{ℕ, Bool, true, false, ◌&&◌, cond, List, Option, Some, None}
use Rattle.asl_syn.specs.declared.code.StaticCode.{StaticCode}
use Rattle.asl_syn.specs.declared.code.StaticCode.TheVariants.{T04, T05, T06, T07}
use Rattle.asl_rules.specs.Tests.{Tests}
use Rattle.asl_rules.specs.types.Types.{Ty, Parts, integer_of, bits_of, tuple_of, array_of, named, no_part, part, is_bits, same_kind, reaches, constraint_of, width_of, parts_of, element_of, or_else, unless, by_names, misfit_inside, misfit_of_parts, misfit}
use Rattle.asl_rules.specs.expressions.Exprs.{apart}
use Rattle.asl_laws.specs.Codes.{IsOfRules}

abbrev pub Other : StaticCode → Type 0
Other T04 = ⊥
Other code = IsOfRules code

-- so is a code that is given
abbrev pub GivenOther : Option StaticCode → Type 0
GivenOther None = Unit {0}
GivenOther (Some code) = Other code

unless_other : (b : Bool) (code : StaticCode) → Other code → GivenOther (unless b code)
unless_other true code h = tt
unless_other false code h = h

or_other : (o p : Option StaticCode) → GivenOther o → GivenOther p → GivenOther (or_else o p)
or_other None p h k = k
or_other (Some code) p h k = h

names_other : (name : List ℕ) (supers : List (List ℕ)) (T : Ty) (rest : Option StaticCode) → GivenOther rest → GivenOther (by_names name supers T rest)
names_other name supers (named target others T) rest h = unless_other (reaches name supers target) T05 tt
names_other name supers T rest h = h

mutual
  inside_other : (t : Tests) (S T : Ty) → GivenOther (misfit_inside t S T)
  inside_other t (integer_of ps) T = unless_other (t.below ps (constraint_of T)) T07 tt
  inside_other t (bits_of w view) T = unless_other (t.same w (width_of T)) T06 tt
  inside_other t (tuple_of ss) T = parts_other t ss (parts_of T)
  inside_other t (array_of n S) T = inside_other t S (element_of T)
  inside_other t (named name supers S) T = names_other name supers T (misfit_inside t S T) (inside_other t S T)
  inside_other t S T = tt

  parts_other : (t : Tests) (ss ts : Parts) → GivenOther (misfit_of_parts t ss ts)
  parts_other t no_part ts = tt
  parts_other t (part S ss) no_part = tt
  parts_other t (part S ss) (part T ts) = or_other (misfit_inside t S T) (misfit_of_parts t ss ts) (inside_other t S T) (parts_other t ss ts)

kinds_other : (b : Bool) (o : Option StaticCode) → GivenOther o → GivenOther (cond b o (Some T05))
kinds_other true o h = h
kinds_other false o h = tt

pub misfit_other : (t : Tests) (S T : Ty) → GivenOther (misfit t S T)
misfit_other t S T = kinds_other (same_kind S T) (misfit_inside t S T) (inside_other t S T)

pub apart_other : (S T : Ty) → Other (apart S T)
apart_other S T = either (is_bits S) (is_bits T)
  where
    either : (a b : Bool) → Other (cond (a && b) T06 T05)
    either true true = tt
    either true false = tt
    either false b = tt
