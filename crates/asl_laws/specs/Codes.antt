-- Which codes a fault has: one that is met as files are read has those of lexemes and of syntax, and one of declarations that are
-- read has those of the rules.
use Rattle.std.specs.Prelude.{◌≡◌, None, Some}
use Rattle.asl_syn.specs.declared.code.DynCode.{DynCode}
use Rattle.asl_syn.specs.declared.code.Fault.{Fault}
use Rattle.asl_syn.specs.declared.code.StaticCode.{StaticCode}
use Rattle.asl_syn.specs.declared.code.StaticCode.TheVariants.{L01, L02, L03, L04, L05, S01, S02, S03, M01, M02, M03, N01, N02, N03, T01, T02, T03, T04, T05, T06, T07, T08, T09, T10, T11, T12, T13, T14, T15, T16, T17, T18, T19, T20, T21, T23, T24, T25, T26, T27}

-- the code of a rule: none of lexemes, of syntax, of files or of word lists
abbrev pub IsOfRules : StaticCode → Type 0
IsOfRules L01 = ⊥
IsOfRules L02 = ⊥
IsOfRules L03 = ⊥
IsOfRules L04 = ⊥
IsOfRules L05 = ⊥
IsOfRules S01 = ⊥
IsOfRules S02 = ⊥
IsOfRules S03 = ⊥
IsOfRules M01 = ⊥
IsOfRules M02 = ⊥
IsOfRules M03 = ⊥
IsOfRules N01 = ⊥
IsOfRules N02 = ⊥
IsOfRules N03 = ⊥
IsOfRules T01 = Unit {0}
IsOfRules T02 = Unit {0}
IsOfRules T03 = Unit {0}
IsOfRules T04 = Unit {0}
IsOfRules T05 = Unit {0}
IsOfRules T06 = Unit {0}
IsOfRules T07 = Unit {0}
IsOfRules T08 = Unit {0}
IsOfRules T09 = Unit {0}
IsOfRules T10 = Unit {0}
IsOfRules T11 = Unit {0}
IsOfRules T12 = Unit {0}
IsOfRules T13 = Unit {0}
IsOfRules T14 = Unit {0}
IsOfRules T15 = Unit {0}
IsOfRules T16 = Unit {0}
IsOfRules T17 = Unit {0}
IsOfRules T18 = Unit {0}
IsOfRules T19 = Unit {0}
IsOfRules T20 = Unit {0}
IsOfRules T21 = Unit {0}
IsOfRules T23 = Unit {0}
IsOfRules T24 = Unit {0}
IsOfRules T25 = Unit {0}
IsOfRules T26 = Unit {0}
IsOfRules T27 = Unit {0}

-- a fault of the rules, which has a dynamic code only beside T04
pub record HasRuleCode (f : Fault) : Type 0 where
  pub code : IsOfRules f.code
  pub inner : (code : DynCode) → f.inner ≡ Some code → f.code ≡ T04

-- the code of a lexeme or of syntax
abbrev pub IsOfReading : StaticCode → Type 0
IsOfReading L01 = Unit {0}
IsOfReading L02 = Unit {0}
IsOfReading L03 = Unit {0}
IsOfReading L04 = Unit {0}
IsOfReading L05 = Unit {0}
IsOfReading S01 = Unit {0}
IsOfReading S02 = Unit {0}
IsOfReading S03 = Unit {0}
IsOfReading M01 = ⊥
IsOfReading M02 = ⊥
IsOfReading M03 = Unit {0}
IsOfReading N01 = ⊥
IsOfReading N02 = ⊥
IsOfReading N03 = ⊥
IsOfReading T01 = ⊥
IsOfReading T02 = ⊥
IsOfReading T03 = ⊥
IsOfReading T04 = ⊥
IsOfReading T05 = ⊥
IsOfReading T06 = ⊥
IsOfReading T07 = ⊥
IsOfReading T08 = ⊥
IsOfReading T09 = ⊥
IsOfReading T10 = ⊥
IsOfReading T11 = ⊥
IsOfReading T12 = ⊥
IsOfReading T13 = ⊥
IsOfReading T14 = ⊥
IsOfReading T15 = ⊥
IsOfReading T16 = ⊥
IsOfReading T17 = ⊥
IsOfReading T18 = ⊥
IsOfReading T19 = ⊥
IsOfReading T20 = ⊥
IsOfReading T21 = ⊥
IsOfReading T23 = ⊥
IsOfReading T24 = ⊥
IsOfReading T25 = ⊥
IsOfReading T26 = ⊥
IsOfReading T27 = ⊥

pub record HasReadingCode (f : Fault) : Type 0 where
  pub code : IsOfReading f.code
  pub inner : f.inner ≡ None
