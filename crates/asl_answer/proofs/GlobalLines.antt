-- The lines of globals, one behind another.
use Rattle.std.proofs.Common.{◌≡◌, ℕ, suc, ◌+◌, ◌<◌, Bool, true, false, List, [], ◌∷◌, ◌++◌, length, get_or, drop, map, Option, Some, Ok, refl, sym, ap, ◌∙◌, subst, arith, append_assoc, append-nil}
use Rattle.std.proofs.Math.Seq.{drop-cons}
use Rattle.asl_io.specs.Told.{Takes, TakesPrefix}
use Rattle.asl_io.proofs.ToldLemmas.{Takes-join, Takes-none, TakesPrefix-after, TakesPrefix-more}
use Rattle.asl_rules.specs.runs.States.{Binding}
use Rattle.asl_rules.specs.report.Texts.{Text, global_line}
use Rattle.asl_rules.specs.report.Report.{globals_text}
use Rattle.asl_value.specs.View.{value_of}
use Rattle.asl_machine.specs.Storage.{Var, var_of, vars_in}
use Rattle.asl_machine.specs.Stages.{OnRun, answer_of}
use Rattle.asl_machine.specs.declared.memory.GlobalVar.{GlobalVar}
use Rattle.asl_machine.specs.declared.stage.Outcome.{Outcome}
use Rattle.asl_machine.specs.declared.stage.Stage.{Stage}
use Rattle.asl_machine.specs.declared.stage.Stage.TheVariants as stage
use Rattle.asl_words.specs.declared.running.ExecEnd.{ExecEnd}
use Rattle.asl_words.specs.private.Runs.{end_of}
use Rattle.asl_answer.specs.private.Ends.{vars_text}
use Rattle.asl_answer.specs.private.Writes.{TakesFront}

-- the lines from global number k on
abbrev from : List GlobalVar → ℕ → Text
from globals k = vars_text (map var_of (drop k globals))

at_front : (globals : List GlobalVar) (k : ℕ) (b : GlobalVar) → k < length globals → b ≡ get_or globals k b → drop k globals ≡ b ∷ drop (k + 1) globals
at_front globals k b within here =
    let up : suc k ≡ k + 1 = omega arith in
    drop-cons globals k b within ∙ ap (λ n. get_or globals k b ∷ drop n globals) up ∙ ap (λ x. x ∷ drop (k + 1) globals) (sym here)

shown_at : (globals : List GlobalVar) (k : ℕ) (b : GlobalVar) → k < length globals → b ≡ get_or globals k b → from globals k ≡ global_line b.name (value_of b.value) ++ from globals (k + 1)
shown_at globals k b within here = ap (λ bs. vars_text (map var_of bs)) (at_front globals k b within here)

-- nothing was written yet
pub none_written : (a : Option (List ℕ)) (globals : List GlobalVar) → TakesFront a a (vars_text (map var_of globals)) (from globals 0)
none_written a globals = record { front = []; is = refl; taken = Takes-none a }

-- a line more was written
pub line_written : (a b c : Option (List ℕ)) (globals : List GlobalVar) (k : ℕ) (x : GlobalVar) → k < length globals → x ≡ get_or globals k x
    → TakesFront a b (vars_text (map var_of globals)) (from globals k) → Takes b c (global_line x.name (value_of x.value)) → TakesFront a c (vars_text (map var_of globals)) (from globals (k + 1))
line_written a b c globals k x within here f t =
    let line = global_line x.name (value_of x.value) in
    record {
      front = f.front ++ line;
      is = f.is ∙ ap (λ r. f.front ++ r) (shown_at globals k x within here) ∙ sym (append_assoc f.front line (from globals (k + 1)));
      taken = Takes-join a b c f.front line f.taken t;
    }

-- a line was refused
pub line_refused : (a b c : Option (List ℕ)) (globals : List GlobalVar) (k : ℕ) (x : GlobalVar) → k < length globals → x ≡ get_or globals k x
    → TakesFront a b (vars_text (map var_of globals)) (from globals k) → TakesPrefix b c (global_line x.name (value_of x.value)) → TakesPrefix a c (vars_text (map var_of globals))
line_refused a b c globals k x within here f t =
    let line = global_line x.name (value_of x.value) in
    let whole : vars_text (map var_of globals) ≡ f.front ++ (line ++ from globals (k + 1)) = f.is ∙ ap (λ r. f.front ++ r) (shown_at globals k x within here) in
    subst (TakesPrefix a c) (sym whole) (TakesPrefix-after a b c f.front (line ++ from globals (k + 1)) f.taken (TakesPrefix-more b c line (from globals (k + 1)) t))

-- all lines were written
pub all_written : (a b : Option (List ℕ)) (text rest : Text) → rest ≡ [] → TakesFront a b text rest → Takes a b text
all_written a b text rest none f = subst (Takes a b) (sym (f.is ∙ ap (λ r. f.front ++ r) none ∙ append-nil f.front)) f.taken

-- ---- as the rules see them

text_first : (b : Binding) (bs : List Binding) → vars_text (vars_in bs) ≡ globals_text bs → (m : Bool) → m ≡ b.is_mutable → vars_text (vars_in (b ∷ bs)) ≡ globals_text (b ∷ bs)
text_first b bs r true e = rw (sym e) (ap (λ z. global_line b.name b.value ++ z) r)
text_first b bs r false e = rw (sym e) r

-- the lines of the variables among bindings
vars_text_is : (bs : List Binding) → vars_text (vars_in bs) ≡ globals_text bs
vars_text_is [] = refl
vars_text_is (b ∷ bs) = text_first b bs (vars_text_is bs) b.is_mutable refl

-- the lines of a machine's variables, where it gave an answer
pub shown : (s : Stage) (o : Outcome) (vs : List Var) (bs : List Binding) → answer_of s ≡ Ok o → OnRun s (vs ≡ vars_in bs) → vars_text vs ≡ globals_text bs
shown (stage.Ready x) o vs bs e h = ap vars_text h ∙ vars_text_is bs
shown (stage.Uncaught x) o vs bs e h = ap vars_text h ∙ vars_text_is bs
shown (stage.Fault code span) o vs bs e h = ap vars_text h ∙ vars_text_is bs
shown (stage.Refused r) o vs bs e h = cc

-- and where its words ended
pub shown_words : (n : ℕ) (s : Stage) (e : ExecEnd) (vs : List Var) (bs : List Binding) → end_of n s ≡ Some e → OnRun s (vs ≡ vars_in bs) → vars_text vs ≡ globals_text bs
shown_words n (stage.Ready x) e vs bs ended h = ap vars_text h ∙ vars_text_is bs
shown_words n (stage.Uncaught x) e vs bs ended h = ap vars_text h ∙ vars_text_is bs
shown_words n (stage.Fault code span) e vs bs ended h = ap vars_text h ∙ vars_text_is bs
shown_words n (stage.Refused r) e vs bs ended h = cc
