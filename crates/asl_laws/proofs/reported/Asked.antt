-- A program that is accepted has the entries that were asked for.
use Rattle.std.proofs.Common.{◌≡◌, ℕ, Bool, List, [], Option, Some, None, Result, Ok, refl, sym, ap, ◌∙◌, subst}
use Rattle.asl_syn.specs.declared.code.Fault.{Fault}
use Rattle.asl_syn.specs.declared.code.StaticCode.TheVariants.{T24}
use Rattle.asl_syn.specs.declared.tree.Decl.{Decl}
use Rattle.asl_rules.specs.declared.entry.Entry.{Entry}
use Rattle.asl_rules.specs.declared.entry.Entry.TheVariants as entry
use Rattle.asl_rules.specs.declarations.Turns.{globals_rule}
use Rattle.asl_rules.specs.Faults.{fault_of}
use Rattle.asl_rules.specs.declarations.Names.{names_rule, all_declared}
use Rattle.asl_rules.specs.declarations.Programs.{Accepted, Entries, accepted, bodies_rule, entries, entry16_rule, entry_found, entry_from, entry_rule, funcs_of, is_decode, is_decode16, is_main, main_rule, origin, overloads_rule, signatures, signatures_rule, verdict}
use Rattle.asl_rules.specs.declarations.Scopes.{Entry as Visible, Signature}
use Rattle.asl_rules.specs.Tests.{Tests}
use Rattle.asl_rules.specs.runs.Trees.{TreeFunc}
use Rattle.asl_rules.specs.declarations.Uses.{cycles_rule}
use Rattle.asl_rules.proofs.basics.Inversions.{bind_ok, err_ok, ok_ok, then_ok}

-- the entries of a program are what was asked for, as the rule finds them among the signatures
pub record HasAsked (e : Entry) (a : Accepted) : Type 0 where
  pub asked : a.asked ≡ e
  pub found : entry_rule e a.signatures ≡ Ok a.entries

asked_of : (e : Entry) (main : Entries) (fs : List Signature) (trees : List TreeFunc) (names : List Visible) (a : Accepted) →
    entry_rule e fs ≡ Ok main → (let r : Result Accepted Fault = Ok (accepted e main fs trees names) in r) ≡ Ok a → HasAsked e a
asked_of e main fs trees names a found h = subst (HasAsked e) (ok_ok (accepted e main fs trees names) a h) (record { asked = refl; found = found })

pub has_asked : (t : Tests) (e : Entry) (ds : List Decl) (a : Accepted) → verdict e ds t ≡ Ok a → HasAsked e a
unfolding verdict
has_asked t e ds a ok =
    let p = then_ok (names_rule [] (all_declared ds)) _ a ok in
    let c = then_ok (cycles_rule ds ds) _ a p.then in
    let n = bind_ok (globals_rule t ds) _ a c.then in
    let s = bind_ok (signatures_rule t n.value (funcs_of ds)) _ a n.then in
    let o = then_ok (overloads_rule [] s.value) _ a s.then in
    let b = bind_ok (bodies_rule t (signatures s.value) s.value) _ a o.then in
    let m = bind_ok (entry_rule e (signatures s.value)) _ a b.then in
    asked_of e m.value (signatures s.value) b.value n.value a m.first m.then

-- what the rule finds is a subprogram
found_some : (o main : Option ℕ) → entry_found o ≡ Ok main → (id : ℕ) × ((o ≡ Some id) × (main ≡ Some id))
found_some None main h = err_ok (fault_of T24 origin) main h
found_some (Some id) main h = (id, (refl, sym (ok_ok (Some id) main h)))

-- an entry is one of these subprograms
pub record IsFound (is : Signature → Bool) (fs : List Signature) (main : Option ℕ) : Type 0 where
  pub id : ℕ
  pub first : entry_from is 0 fs ≡ Some id
  pub there : main ≡ Some id

main_of : (is : Signature → Bool) (fs : List Signature) (m : Entries) → main_rule (entry_from is 0 fs) ≡ Ok m → IsFound is fs m.main
main_of is fs m h =
    let b = bind_ok (entry_found (entry_from is 0 fs)) (λ main. Ok (entries main None)) m h in
    let f = found_some (entry_from is 0 fs) b.value b.first in
    record { id = f.0; first = f.1.0; there = sym (ap (λ (n : Entries). n.main) (ok_ok (entries b.value None) m b.then)) ∙ f.1.1 }

entry16_of : (is : Signature → Bool) (main : Option ℕ) (fs : List Signature) (m : Entries) →
    entry16_rule main (entry_from is 0 fs) ≡ Ok m → (main ≡ m.main) × IsFound is fs m.entry16
entry16_of is main fs m h =
    let b = bind_ok (entry_found (entry_from is 0 fs)) (λ entry16. Ok (entries main entry16)) m h in
    let f = found_some (entry_from is 0 fs) b.value b.first in
    let same = ok_ok (entries main b.value) m b.then in
    (ap (λ (n : Entries). n.main) same, record { id = f.0; first = f.1.0; there = sym (ap (λ (n : Entries). n.entry16) same) ∙ f.1.1 })

pub main_there : (a : Accepted) → HasAsked entry.Main a → IsFound is_main a.signatures a.entries.main
main_there a h = main_of is_main a.signatures a.entries h.found

pub decode_there : (a : Accepted) → HasAsked entry.Decode a → IsFound is_decode a.signatures a.entries.main
decode_there a h = main_of is_decode a.signatures a.entries h.found

pub decode16_there : (a : Accepted) → HasAsked entry.Decode16 a → IsFound is_decode16 a.signatures a.entries.entry16
decode16_there a h = (entry16_of is_decode16 None a.signatures a.entries h.found).1

pub both_there : (a : Accepted) → HasAsked entry.Both a →
    IsFound is_decode a.signatures a.entries.main × IsFound is_decode16 a.signatures a.entries.entry16
both_there a h =
    let fs = a.signatures in
    let b = bind_ok (entry_found (entry_from is_decode 0 fs)) (λ main. entry16_rule main (entry_from is_decode16 0 fs)) a.entries h.found in
    let f = found_some (entry_from is_decode 0 fs) b.value b.first in
    let n = entry16_of is_decode16 b.value fs a.entries b.then in
    (record { id = f.0; first = f.1.0; there = sym n.0 ∙ f.1.1 }, n.1)
