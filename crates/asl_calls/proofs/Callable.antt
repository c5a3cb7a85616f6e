-- A program that was read and checked with the entry `main` has one that can be called, and what a call of it owes.
use Rattle.std.proofs.Common.{◌≡◌, ◌∙◌, inr, ℕ, List, [], map, Option, Some, Ok, refl, sym, ap, subst}
use Rattle.asl_syn.specs.declared.read.ReadDecl.{ReadDecl}
use Rattle.asl_grammar.specs.Reading.{File, Reads}
use Rattle.asl_rules.specs.private.Grown.{AreGrown, AreReadGrown}
use Rattle.asl_rules.specs.declarations.Programs.{Entries, final_decls, read_verdict, verdict}
use Rattle.asl_rules.specs.Tests.{Tests}
use Rattle.asl_rules.specs.declared.entry.Entry.TheVariants.{Main}
use Rattle.asl_rules.proofs.basics.Inversions.{ok_ok, bind_ok}
use Rattle.asl_laws.proofs.scopes.GrownTexts.{read_grown, written_grown}
use Rattle.asl_laws.proofs.verdict.ReadVerdict.{steps_of}
use Rattle.asl_types.specs.Suits.{Suits}
use Rattle.asl_value.specs.declared.value.Value.{Value}
use Rattle.asl_value.specs.View.{value_of}
use Rattle.asl_tree.specs.Sealed.{Sealed}
use Rattle.asl_check.specs.private.Verdicts.{IsReadVerdict}
use Rattle.asl_machine.specs.Work.{IsCallable}
use Rattle.asl_machine.proofs.Entries.{main_callable}
use Rattle.asl_calls.specs.private.Callable.{HasCallableMain}

pub grown : (files : List File) (ds : List ReadDecl) → Reads files (Ok ds) → AreReadGrown ds
grown files ds r = read_grown files ds r

pub has_callable_main : (ds : List ReadDecl) (c : Sealed) → AreReadGrown ds → ((t : Tests) → Suits t → IsReadVerdict t Main ds (Ok c))
    → HasCallableMain c
has_callable_main ds c grown checked = λ t u id is.
    let h = checked t u in
    let b = bind_ok (read_verdict Main ds t) (λ a. Ok a.entries) c.entries h.1.1 in
    let final = (steps_of Main ds t b.value b.first).final_is in
    let accepted = ap (λ e. verdict e c.decls t) h.1.0 ∙ ap (λ zs. verdict Main zs t) h.0 ∙ final in
    main_callable t u c (subst AreGrown (sym h.0) (written_grown ds (final_decls ds) (inr refl) grown)) b.value accepted h.1.0 id
    (ap (λ (n : Entries). n.main) (ok_ok b.value.entries c.entries b.then) ∙ is)

-- the entry that the program tells, over no arguments
pub callable_so : (c : Sealed) (entry : Option ℕ) (id : ℕ) (args : List Value) → HasCallableMain c → entry ≡ c.entries.main → entry ≡ Some id
    → args ≡ [] → (t : Tests) → Suits t → IsCallable t c id (map value_of args)
callable_so c entry id args has told is none t u =
    subst (λ (xs : List Value). IsCallable t c id (map value_of xs)) (sym none) (has t u id (sym told ∙ is))
