-- What a report is put together from isn't stuck, for all files that are read.
use Rattle.std.proofs.Common.{List, [], Some}
use Rattle.asl_grammar.specs.Reading.{File}
use Rattle.asl_laws.specs.Answers.{AreJudged}
use Rattle.asl_syn.specs.declared.tree.Decl.{Decl}
use Rattle.asl_rules.specs.declared.entry.Entry.TheVariants as entry
use Rattle.asl_rules.specs.runs.Evaluation.{initial_globals}
use Rattle.asl_rules.specs.private.Grown.{AreGrown}
use Rattle.asl_rules.specs.runs.Plans.{starting}
use Rattle.asl_rules.specs.runs.Words.{wanted}
use Rattle.asl_rules.specs.declarations.Programs.{environment}
use Rattle.asl_rules.specs.Tests.{IsRight, Tests}
use Rattle.asl_laws.proofs.scopes.GrownTexts.{judged_grown}
use Rattle.asl_laws.proofs.soundness.Soundness.{soundness}
use Rattle.asl_laws.proofs.soundness.SoundnessEntry.{main_call}
use Rattle.asl_laws.proofs.soundness.SoundnessFacts.{facts_of}
use Rattle.asl_laws.specs.Reported.{RunsWell}
use Rattle.asl_laws.proofs.reported.Asked.{has_asked, main_there}
use Rattle.asl_laws.proofs.reported.RunsOfWords.{have_entries, words_not_stuck}

grown_well : (t : Tests) → IsRight t → (ds : List Decl) → AreGrown ds → RunsWell t ds
grown_well t right ds grown = record {
  run = λ a ok steps.
      let asked = has_asked t entry.Main ds a ok in
      let there = main_there a asked in
      let f = facts_of t entry.Main ds a ok in
      let sound = (soundness t right ds a f grown).0 in
      let globals = initial_globals (environment t ds) in (
        there.id,
        (
          there.there,
          sound.never_stuck there.id [] globals (starting steps (Some []))
              (main_call a there.id globals sound.initial there.first),
        ),
      );
  words = λ a words ok steps.
      let sound = (soundness t right ds a (facts_of t (wanted words) ds a ok) grown).0 in
      words_not_stuck t ds a sound words (initial_globals (environment t ds)) (starting steps (Some []))
      (have_entries a words (has_asked t (wanted words) ds a ok)) sound.initial;
}

pub reports_run_well : (t : Tests) → IsRight t → (files : List File) (ds : List Decl) → AreJudged t.limit files ds → RunsWell t ds
reports_run_well t right files ds r = grown_well t right ds (judged_grown t.limit files ds r)
