-- A program that was checked has the entries that were asked for, and no others.
use Rattle.std.proofs.Common.{◌≡◌, ℕ, Bool, true, false, inl, inr, ◌⊎◌, List, [], Option, None, Some, Result, Ok, refl, sym, ap, ◌∙◌}
use Rattle.std.proofs.Math.Logic.{∥∥₁_elim}
use Rattle.std.specs.Coded.{Coded-set, coded_bool, coded_option, coded_ℕ}
use Rattle.std.specs.Prelude.{◌↔◌}
use Rattle.asl_bits.specs.declared.TheConstants.{WIDTH_LIMIT}
use Rattle.asl_syn.specs.declared.code.Fault.{Fault}
use Rattle.asl_syn.specs.declared.code.StaticCode.TheVariants.{T24}
use Rattle.asl_syn.specs.declared.tree.Decl.{Decl}
use Rattle.asl_rules.specs.declared.entry.Entry.{Entry}
use Rattle.asl_rules.specs.declared.entry.Entry.TheVariants as entry
use Rattle.asl_rules.specs.declarations.Turns.{globals_rule}
use Rattle.asl_rules.specs.declarations.Names.{names_rule, all_declared}
use Rattle.asl_rules.specs.declarations.Programs.{funcs_of, signatures_rule, signatures, overloads_rule, bodies_rule}
use Rattle.asl_rules.specs.declarations.Programs.{Entries, entries, entry_rule, entry_from, entry_found, entry16_rule, is_main, is_decode, is_decode16, main_rule, origin}
use Rattle.asl_rules.specs.declarations.Programs.{verdict, Accepted, accepted}
use Rattle.asl_rules.specs.declarations.Scopes.{Entry as Visible, Signature}
use Rattle.asl_rules.specs.declarations.Uses.{cycles_rule}
use Rattle.asl_rules.specs.runs.Trees.{TreeFunc as Typed}
use Rattle.asl_rules.specs.Faults.{◌>>=◌, fault_of}
use Rattle.asl_rules.specs.Tests.{Tests}
use Rattle.asl_rules.proofs.basics.Inversions.{ok_ok, err_ok, bind_ok, then_ok}
use Rattle.asl_rules.proofs.basics.Tests.{some_none}
use Rattle.asl_rules.proofs.verdict.SomeTests.{some_tests, limit_within}
use Rattle.asl_types.specs.Suits.{Suits}
use Rattle.asl_tree.specs.Sealed.{IsMade, IsSealed}
use Rattle.asl_tree.specs.declared.act.TreeFunc.{TreeFunc}
use Rattle.asl_tree.specs.declared.checked.Global.{Global}

-- right tests for the width limit of the code
pub some_suits : (t : Tests) × Suits t
some_suits = let s = some_tests WIDTH_LIMIT limit_within in (s.tests, record { right = s.right; limit = s.within })

-- ---- what the rule finds

main_found : (o : Option ℕ) (m : Entries) → main_rule o ≡ Ok m → (m.main ≡ None → ⊥) × (m.entry16 ≡ None)
main_found None m h = err_ok (fault_of T24 origin) m h
main_found (Some n) m h =
    let same = ok_ok (entries (Some n) None) m h in
    (λ none. some_none n (ap (λ (x : Entries). x.main) same ∙ none), sym (ap (λ (x : Entries). x.entry16) same))

entry16_found : (main o : Option ℕ) (m : Entries) → entry16_rule main o ≡ Ok m → (m.main ≡ main) × (m.entry16 ≡ None → ⊥)
entry16_found main None m h = err_ok (fault_of T24 origin) m h
entry16_found main (Some n) m h =
    let same = ok_ok (entries main (Some n)) m h in
    (sym (ap (λ (x : Entries). x.main) same), λ none. some_none n (ap (λ (x : Entries). x.entry16) same ∙ none))

both_found : (o p : Option ℕ) (m : Entries) → (entry_found o >>= λ main. entry16_rule main p) ≡ Ok m → (m.main ≡ None → ⊥) × (m.entry16 ≡ None → ⊥)
both_found None p m h = err_ok (fault_of T24 origin) m h
both_found (Some n) p m h =
    let f = entry16_found (Some n) p m h in
    (λ none. some_none n (sym f.0 ∙ none), f.1)

-- ---- which entries are asked for

abbrev asks_main : Entry → Bool
asks_main entry.None = false
asks_main entry.Main = true
asks_main entry.Decode = true
asks_main entry.Decode16 = false
asks_main entry.Both = true

abbrev asks_entry16 : Entry → Bool
asks_entry16 entry.None = false
asks_entry16 entry.Main = false
asks_entry16 entry.Decode = false
asks_entry16 entry.Decode16 = true
asks_entry16 entry.Both = true

-- there is none exactly where it isn't asked for
record IsThere (o : Option ℕ) (b : Bool) : Type 0 where
  asked : o ≡ None → b ≡ false
  none : b ≡ false → o ≡ None

there : (o : Option ℕ) → (o ≡ None → ⊥) → IsThere o true
there o found = record { asked = λ none. absurd (found none); none = λ h. cc h }

absent : (o : Option ℕ) → o ≡ None → IsThere o false
absent o none = record { asked = λ _. refl; none = λ _. none }

main_is : (e : Entry) (fs : List Signature) (m : Entries) → entry_rule e fs ≡ Ok m → IsThere m.main (asks_main e)
main_is entry.None fs m h = absent m.main (sym (ap (λ (x : Entries). x.main) (ok_ok (entries None None) m h)))
main_is entry.Main fs m h = there m.main (main_found (entry_from is_main 0 fs) m h).0
main_is entry.Decode fs m h = there m.main (main_found (entry_from is_decode 0 fs) m h).0
main_is entry.Decode16 fs m h = absent m.main (entry16_found None (entry_from is_decode16 0 fs) m h).0
main_is entry.Both fs m h = there m.main (both_found (entry_from is_decode 0 fs) (entry_from is_decode16 0 fs) m h).0

entry16_is : (e : Entry) (fs : List Signature) (m : Entries) → entry_rule e fs ≡ Ok m → IsThere m.entry16 (asks_entry16 e)
entry16_is entry.None fs m h = absent m.entry16 (sym (ap (λ (x : Entries). x.entry16) (ok_ok (entries None None) m h)))
entry16_is entry.Main fs m h = absent m.entry16 (main_found (entry_from is_main 0 fs) m h).1
entry16_is entry.Decode fs m h = absent m.entry16 (main_found (entry_from is_decode 0 fs) m h).1
entry16_is entry.Decode16 fs m h = there m.entry16 (entry16_found None (entry_from is_decode16 0 fs) m h).1
entry16_is entry.Both fs m h = there m.entry16 (both_found (entry_from is_decode 0 fs) (entry_from is_decode16 0 fs) m h).1

-- by name
no_main : (e : Entry) → asks_main e ≡ false → (e ≡ entry.None) ⊎ (e ≡ entry.Decode16)
no_main entry.None h = inl refl
no_main entry.Main h = cc h
no_main entry.Decode h = cc h
no_main entry.Decode16 h = inr refl
no_main entry.Both h = cc h

main_not : (e : Entry) → (e ≡ entry.None) ⊎ (e ≡ entry.Decode16) → asks_main e ≡ false
main_not e (inl h) = ap asks_main h
main_not e (inr h) = ap asks_main h

no_entry16 : (e : Entry) → asks_entry16 e ≡ false → (e ≡ entry.None) ⊎ ((e ≡ entry.Main) ⊎ (e ≡ entry.Decode))
no_entry16 entry.None h = inl refl
no_entry16 entry.Main h = inr (inl refl)
no_entry16 entry.Decode h = inr (inr refl)
no_entry16 entry.Decode16 h = cc h
no_entry16 entry.Both h = cc h

entry16_not : (e : Entry) → (e ≡ entry.None) ⊎ ((e ≡ entry.Main) ⊎ (e ≡ entry.Decode)) → asks_entry16 e ≡ false
entry16_not e (inl h) = ap asks_entry16 h
entry16_not e (inr (inl h)) = ap asks_entry16 h
entry16_not e (inr (inr h)) = ap asks_entry16 h

-- ---- what a verdict finds

-- a verdict looks for the entries that it has
record Looked (e : Entry) (found : Entries) : Type 0 where
  among : List Signature
  is : entry_rule e among ≡ Ok found

abbrev Accepts : Result Accepted Fault → Accepted → Type 0
Accepts r a = r ≡ Ok a

its_entry : (e : Entry) (fs : List Signature) (m found : Entries) (gs hs : List Signature) (trees funcs : List Typed)
    (ns names : List Visible) → entry_rule e fs ≡ Ok m → Accepts (Ok (accepted e m gs trees ns)) (accepted e found hs funcs names) → Looked e found
its_entry e fs m found gs hs trees funcs ns names h is =
    let same : m ≡ found = ap (λ (z : Accepted). z.entries) (ok_ok (accepted e m gs trees ns) (accepted e found hs funcs names) is) in
    record { among = fs; is = h ∙ ap Ok same }

looked : (t : Tests) (e : Entry) (ds : List Decl) (found : Entries) (hs : List Signature) (funcs : List Typed)
    (names : List Visible) → verdict e ds t ≡ Ok (accepted e found hs funcs names) → Looked e found
unfolding verdict
looked t e ds found hs funcs names ok =
    let a = accepted e found hs funcs names in
    let p = then_ok (names_rule [] (all_declared ds)) _ a ok in
    let c = then_ok (cycles_rule ds ds) _ a p.then in
    let n = bind_ok (globals_rule t ds) _ a c.then in
    let s = bind_ok (signatures_rule t n.value (funcs_of ds)) _ a n.then in
    let o = then_ok (overloads_rule [] s.value) _ a s.then in
    let b = bind_ok (bodies_rule t (signatures s.value) s.value) _ a o.then in
    let m = bind_ok (entry_rule e (signatures s.value)) _ a b.then in
    its_entry e (signatures s.value) m.value found (signatures s.value) hs b.value funcs n.value names m.first m.then

module _ (ds : List Decl) (asked : Entry) (found : Entries) (fs : List TreeFunc) (gs : List Global) (sealed : IsSealed ds asked found fs gs) where
  looked_for : (m : IsMade some_suits.0 ds asked found fs gs) → Looked asked found
  looked_for m = looked some_suits.0 asked ds found m.signatures _ m.names m.accepts

  -- it is known without what it was made of
  by_made : (o : Option ℕ) (b : Bool) → ((m : IsMade some_suits.0 ds asked found fs gs) → IsThere o b) → IsThere o b
  by_made o b is =
      let s = sealed some_suits.0 some_suits.1 in
      record {
        asked = λ none. ∥∥₁_elim s (Coded-set coded_bool _ _) (λ m. (is m).asked none);
        none = λ h. ∥∥₁_elim s (Coded-set (coded_option coded_ℕ) _ _) (λ m. (is m).none h);
      }

  pub entry_asked : (found.main ≡ None) ↔ ((asked ≡ entry.None) ⊎ (asked ≡ entry.Decode16))
  entry_asked =
      let is = by_made found.main (asks_main asked) (λ m. main_is asked (looked_for m).among found (looked_for m).is) in
      (λ none. no_main asked (is.asked none), λ h. is.none (main_not asked h))

  pub entry16_asked : (found.entry16 ≡ None) ↔ ((asked ≡ entry.None) ⊎ ((asked ≡ entry.Main) ⊎ (asked ≡ entry.Decode)))
  entry16_asked =
      let is = by_made found.entry16 (asks_entry16 asked) (λ m. entry16_is asked (looked_for m).among found (looked_for m).is) in
      (λ none. no_entry16 asked (is.asked none), λ h. is.none (entry16_not asked h))
