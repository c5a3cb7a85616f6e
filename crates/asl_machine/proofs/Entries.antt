-- The entry `main` can be called.
use Rattle.std.proofs.Common.{◌≡◌, ℕ, [], Some, Ok, sym, ◌∙◌, subst}
use Rattle.asl_rules.specs.runs.Evaluation.{initial_globals}
use Rattle.asl_rules.specs.private.Grown.{AreGrown}
use Rattle.asl_rules.specs.declarations.Programs.{verdict, Accepted, environment}
use Rattle.asl_rules.specs.Tests.{Tests}
use Rattle.asl_rules.specs.declared.entry.Entry.TheVariants as entry
use Rattle.asl_laws.proofs.reported.Asked.{HasAsked, has_asked, main_there}
use Rattle.asl_laws.proofs.soundness.Soundness.{soundness}
use Rattle.asl_laws.proofs.soundness.SoundnessEntry.{main_call}
use Rattle.asl_laws.proofs.soundness.SoundnessFacts.{facts_of}
use Rattle.asl_tree.specs.Sealed.{Sealed}
use Rattle.asl_types.specs.Suits.{Suits}
use Rattle.asl_machine.specs.Work.{IsCallable}

-- `main`, with nothing
pub main_callable : (t : Tests) → Suits t → (c : Sealed) → AreGrown c.decls → (a : Accepted) → verdict c.asked c.decls t ≡ Ok a → c.asked ≡ entry.Main → (id : ℕ) → a.entries.main ≡ Some id → IsCallable t c id []
main_callable t r c grown a ok main id is =
    let s = soundness t r.right c.decls a (facts_of t c.asked c.decls a ok) grown in
    let there = main_there a (subst (λ e. HasAsked e a) main (has_asked t c.asked c.decls a ok)) in
    let call = main_call a id (initial_globals (environment t c.decls)) s.0.initial (there.first ∙ sym there.there ∙ is) in
    record { accepted = a; is = ok; signature = call.signature; called = call.is; no_params = call.no_params; args_belong = call.args_belong }
