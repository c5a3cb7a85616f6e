use Rattle.std.proofs.Common.{◌≡◌, ◌∙◌, sym, Some, None, codes}
use Rattle.clap.proofs.WalkLemmas.{first_value-rows}
use Rattle.clap.specs.Words.{found_of, rows_of, first_of}
use Rattle.asl_line.proofs.words.words_given.Goals as goal

pub returns-in-Some : goal.returns-in-Some
returns-in-Some c =
    let e : first_of (codes "words") (rows_of (found_of c.args.matches.now)) ≡ Some c.in-Some.name.now = sym (first_value-rows (found_of c.args.matches.now) (codes "words")) ∙ sym c.in-Some.ensures in
    rw e c.from_str.ensures.ok

pub returns-in-None : goal.returns-in-None
returns-in-None c =
    let e : first_of (codes "words") (rows_of (found_of c.args.matches.now)) ≡ None = sym (first_value-rows (found_of c.args.matches.now) (codes "words")) ∙ sym c.in-None.ensures in
    rw e c.new.ensures.bytes
