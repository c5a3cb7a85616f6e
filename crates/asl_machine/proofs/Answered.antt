-- What a call answers where its run was given up.
use Rattle.std.proofs.Common.{◌≡◌, Result, OnErr, sym, subst}
use Rattle.asl_machine.specs.Stages.{OnReady, OnRefused, answer_of}
use Rattle.asl_machine.specs.declared.stage.Outcome.{Outcome}
use Rattle.asl_machine.specs.declared.stage.RunRefused.{RunRefused}
use Rattle.asl_machine.specs.declared.stage.Stage.{Stage}
use Rattle.asl_machine.specs.declared.stage.Stage.TheVariants as stage

pub on_ready : (s : Stage) (P : Type 0) → P → OnReady s P
on_ready (stage.Ready x) P p = p
on_ready (stage.Uncaught x) P p = tt
on_ready (stage.Fault code span) P p = tt
on_ready (stage.Refused e) P p = tt

on_answer : (s : Stage) (P Q : Type 0) → (P → Q) → OnRefused s P → OnErr (answer_of s) Q
on_answer (stage.Ready x) P Q f p = tt
on_answer (stage.Uncaught x) P Q f p = tt
on_answer (stage.Fault code span) P Q f p = tt
on_answer (stage.Refused e) P Q f p = f p

-- what is promised of a run that was given up is promised of the answer
pub given_up : (before after : Stage) (r : Result Outcome RunRefused) (P Q : Type 0) → r ≡ answer_of after → (P → Q) → OnRefused after P → OnReady before (OnErr r Q)
given_up before after r P Q e f p = on_ready before (OnErr r Q) (subst (λ z. OnErr z Q) (sym e) (on_answer after P Q f p))
