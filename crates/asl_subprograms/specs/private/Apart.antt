-- Subprograms of one name, as the checker finds them.
use Rattle.std.specs.Prelude.{ℕ, suc, nat_lt, Bool, true, false, not, List, [], ◌∷◌, slice_get, Option, Some, None, Result, Ok}
use Rattle.asl_syn.specs.declared.code.Fault.{Fault}
use Rattle.asl_syn.specs.declared.code.StaticCode.TheVariants.{T10}
use Rattle.asl_syn.specs.declared.tree.Func.{Func}
use Rattle.asl_rules.specs.Faults.{◌>>◌, need}
use Rattle.asl_rules.specs.declarations.Scopes.{Signature, Chosen, choose}

-- the overload that is chosen stands before this number
abbrev pub is_before : ℕ → Option Chosen → Bool
is_before n None = false
is_before n (Some c) = nat_lt c.number n

-- none before the signature of this number has its name, and formals of its kinds
abbrev pub is_apart : ℕ → Option Signature → List Signature → Bool
is_apart n None ss = true
is_apart n (Some s) ss = not (is_before n (choose s.name s.formals ss))

-- T10 at the first name of a subprogram that one before it has, with formals of the same kinds; the first has this number
abbrev pub apart_from : ℕ → List Func → List Signature → Result (Unit {0}) Fault
apart_from n [] ss = Ok tt
apart_from n (f ∷ fs) ss = need (is_apart n (slice_get ss n) ss) T10 f.name.span >> apart_from (suc n) fs ss

abbrev pub apart_rule : List Func → List Signature → Result (Unit {0}) Fault
apart_rule fs ss = apart_from 0 fs ss
