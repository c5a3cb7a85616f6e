-- What is refused is the fault of the program.
use Rattle.std.proofs.Common.{◌≡◌, List, [], Result, Ok, Err, sym, ap}
use Rattle.asl_syn.specs.declared.code.Fault.{Fault}
use Rattle.asl_syn.specs.declared.tree.Decl.{Decl}
use Rattle.asl_rules.specs.declared.entry.Entry.TheVariants as entry
use Rattle.asl_rules.specs.Faults.{◌>>=◌, ◌>>◌}
use Rattle.asl_rules.specs.Tests.{Tests}
use Rattle.asl_rules.specs.declarations.Names.{names_rule, all_declared}
use Rattle.asl_rules.specs.declarations.Uses.{cycles_rule}
use Rattle.asl_rules.specs.declarations.Turns.{globals_rule}
use Rattle.asl_rules.specs.declarations.Programs.{accepted, funcs_of, signatures, signatures_rule, overloads_rule, bodies_rule, entry_rule}
use Rattle.asl_rules.specs.declarations.Programs.{verdict}
use Rattle.asl_laws.specs.certificates.Certificates.{heads_of}
use Rattle.asl_laws.proofs.certificates.Lines.{err_isnt}

fault_or : {A : Type 0} → Fault → Result A Fault → Fault
fault_or d (Ok x) = d
fault_or d (Err e) = e

same_fault : {A : Type 0} (e f : Fault) → (let r : Result A Fault = Err e in r) ≡ Err f → e ≡ f
unfolding fault_or
same_fault e f h = ap (fault_or e) h

module _ (f : Fault) where
  then_fails : {A B : Type 0} (r : Result (Unit {0}) Fault) (s : Result A Fault) (q : Result B Fault) → (s ≡ Err f → q ≡ Err f) →
      (r >> s) ≡ Err f → (r >> q) ≡ Err f
  then_fails (Ok x) s q k h = k h
  then_fails {A} (Err e) s q k h = ap Err (same_fault {A = A} e f h)

  bind_fails : {A B C : Type 0} (r : Result A Fault) (g : A → Result B Fault) (k : A → Result C Fault) →
      ((x : A) → g x ≡ Err f → k x ≡ Err f) → (r >>= g) ≡ Err f → (r >>= k) ≡ Err f
  bind_fails (Ok x) g k n h = n x h
  bind_fails {A} {B} (Err e) g k n h = ap Err (same_fault {A = B} e f h)

  pub refused_is : (t : Tests) (ds : List Decl) → heads_of t ds ≡ Err f → verdict entry.None ds t ≡ Err f
  unfolding verdict
  refused_is t ds h =
      then_fails (names_rule [] (all_declared ds)) _ _ (λ h.
      then_fails (cycles_rule ds ds) _ _ (λ h.
      bind_fails (globals_rule t ds) _ _ (λ names h.
      bind_fails (signatures_rule t names (funcs_of ds)) _ _ (λ hs h.
      then_fails (overloads_rule [] hs) (Ok hs)
      (bodies_rule t (signatures hs) hs >>= λ trees. entry_rule entry.None (signatures hs)
      >>= λ main. Ok (accepted entry.None main (signatures hs) trees names)) (λ h. err_isnt f hs (sym h)) h) h) h) h) h

pub refused_fault : (t : Tests) (ds : List Decl) (f : Fault) → heads_of t ds ≡ Err f → verdict entry.None ds t ≡ Err f
refused_fault t ds f h = refused_is f t ds h
