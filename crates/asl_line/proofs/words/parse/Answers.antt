use Rattle.std.proofs.Common.{◌≡◌, ◌∙◌, inl, inr, sym, ap, ap₂, subst, refl, true, true≢false, [], ◌∷◌, List, Option, map, string_bytes}
use Rattle.std.proofs.lemmas.Result.{IfOk-weaker}
use Rattle.clap.specs.Words.{App, Text, Row, Kinds, IsAmong, fault_of, is_simple, is_simple_and_free, subcommand_of, subcommand_rows_of}
use Rattle.clap.specs.declared.error.ErrorKind.{ErrorKind}
use Rattle.clap.specs.declared.error.ErrorKind.TheVariants.{OutOfMemory}
use Rattle.clap.proofs.OnLiterals.{clap_on_literals}
use Rattle.asl_syn.specs.Command.{usage}
use Rattle.asl_line.specs.Line.{asl_app, line_of, command_from, command_unless}
use Rattle.asl_line.proofs.words.parse.Goals as goal

simple : is_simple asl_app ≡ true
unfolding clap_on_literals
simple = refl

free : is_simple_and_free asl_app ≡ true
unfolding clap_on_literals
free = refl

-- an error of one of the kinds is usage
refused : (k : ErrorKind) (ks : Kinds) (found : Option (Text × List Row)) → IsAmong k ks → usage ≡ command_unless ks found
refused k [] found h = absurd h
refused k (x ∷ xs) found h = refl

pub returns-in-Ok-clause-meaning : goal.returns-in-Ok-clause-meaning
unfolding line_of
returns-in-Ok-clause-meaning c =
    let app = c.in_ok-command.ensures in
    let words : List Text = map string_bytes c.args.words.now in
    let none : fault_of asl_app words ≡ [] = subst (λ (a : App). fault_of a words ≡ []) app (c.in-Ok.ensures.kinds (ap is_simple_and_free app ∙ free)) in
    let found : subcommand_rows_of c.in-Ok.matches ≡ subcommand_of asl_app words = (c.in-Ok.ensures.matches (ap is_simple app ∙ simple)).1 ∙ ap (λ (a : App). subcommand_of a words) app in
    let line : line_of words ≡ command_from (subcommand_rows_of c.in-Ok.matches) = ap₂ command_unless none (sym found) in
    IfOk-weaker c.line_from.result _ _ (λ l h. h ∙ sym line) c.line_from.ensures.meaning

pub returns-else-eq-clause-meaning : goal.returns-else-eq-clause-meaning
unfolding line_of
returns-else-eq-clause-meaning c =
    let app = c.in_ok-command.ensures in
    let words : List Text = map string_bytes c.args.words.now in
    let kinds = c.in-Err.ensures.kinds (ap is_simple_and_free app ∙ free) in
    elim kinds [
      | inl memory ↦ let same : c.kind.result ≡ OutOfMemory = c.kind.ensures ∙ memory in let bad = rw same at c.if-eq.ensures in absurd (true≢false (sym bad))
      | inr among ↦ subst (λ (a : App). usage ≡ command_unless (fault_of a words) (subcommand_of asl_app words)) app (refused _ _ _ among)
    ]
