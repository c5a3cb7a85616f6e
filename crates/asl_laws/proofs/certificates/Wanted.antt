-- Where all stages go well, the lines that have to come are those of the certificate; and the lines of bytes are what stands before line
-- feeds.
use Rattle.std.proofs.Common.{◌≡◌, ℕ, suc, ◌==◌, Bool, true, false, List, [], ◌∷◌, ◌++◌, length, map, Ok, Err, refl, sym, ap, ◌∙◌, subst}
use Rattle.std.proofs.Common.{append_assoc, arith}
use Rattle.std.specs.Prelude.{if◌then◌else◌}
use Rattle.std.proofs.lemmas.Bool.Decides.{nat_tests}
use Rattle.asl_rules.specs.report.Texts.{Text, line_feed}
use Rattle.asl_laws.specs.certificates.Texts.{Line, line_text, last_line, first_line}
use Rattle.asl_laws.specs.certificates.Certificates.{with_feed, all_lines, Stage, asks, says, lines_in, Given, none_given, ended, open_end}
use Rattle.asl_laws.specs.certificates.Certificates.{given_first, given_line, AllGo}
use Rattle.asl_laws.specs.certificates.Verdicts.{want, until, lines_until, all_right, ending_by, ending, closing, last_want, first_want}
use Rattle.asl_laws.specs.certificates.Verdicts.{fed, Want, WantedLaw, FeedFree, FirstLine, feeds, AllFeedFree}
use Rattle.asl_laws.proofs.certificates.Lines.{err_isnt, same_nat}

-- ---- all lines

both_are : (ss : List Stage) → AllGo ss → (lines_until ss ≡ lines_in ss) × (ending ss ≡ all_right)
both_are [] g = (refl, refl)
both_are (asks (Ok x) ∷ ss) g = both_are ss g.1
both_are (asks (Err f) ∷ ss) g = err_isnt f tt g.0
both_are (says l ∷ ss) g =
    let p = both_are ss g.1 in
    (ap (λ o. l.lines ++ until o (lines_until ss)) g.0 ∙ ap (λ z. l.lines ++ z) p.0, ap (λ o. ending_by o (ending ss)) g.0 ∙ p.1)

pub fed_append : (ws vs : List Want) → fed (ws ++ vs) ≡ fed ws ++ fed vs
fed_append [] vs = refl
fed_append (w ∷ ws) vs = ap (λ z. with_feed w.text ++ z) (fed_append ws vs) ∙ sym (append_assoc (with_feed w.text) (fed ws) (fed vs))

fed_lines : (ls : List Line) → fed (map want ls) ≡ all_lines ls
fed_lines [] = refl
fed_lines (l ∷ ls) = ap (λ z. with_feed (line_text l) ++ z) (fed_lines ls)

append_nil : (t : Text) → t ++ [] ≡ t
append_nil [] = refl
append_nil (b ∷ t) = ap (λ z. b ∷ z) (append_nil t)

pub wanted_law : (ss : List Stage) → AllGo ss → WantedLaw ss
wanted_law ss g =
    let p = both_are ss g in
    record {
      ends = p.1;
      lines_are = p.0;
      text_is =
          ap (λ e. fed (first_want ∷ (map want (lines_until ss) ++ closing e (length (lines_until ss))))) p.1 ∙
          (ap (λ ls. fed (first_want ∷ (map want ls ++ closing all_right (length ls)))) p.0 ∙
          ap (λ z. with_feed first_line ++ z) (fed_append (map want (lines_in ss)) (last_want (length (lines_in ss)) ∷ []) ∙
          (ap (λ z. z ++ (with_feed (last_line (length (lines_in ss))) ++ [])) (fed_lines (lines_in ss))
          ∙ ap (λ z. all_lines (lines_in ss) ++ z) (append_nil (with_feed (last_line (length (lines_in ss))))))));
    }

-- ---- lines of bytes

not_feed : (b : ℕ) → (b ≡ 10 → ⊥) → (b == 10) ≡ false
not_feed b n = grind (arith, nat_tests)

feed_isnt : (b : ℕ) → (b == 10) ≡ false → b ≡ 10 → ⊥
feed_isnt b h e = grind (arith, nat_tests)

begins_with : (text rest : Text) → FeedFree text → given_line (with_feed text ++ rest) ≡ ended text
begins_with [] rest f = refl
begins_with (b ∷ text) rest f =
    ap (λ x. if x then ended [] else given_first b (given_line (with_feed text ++ rest))) (not_feed b f.0)
    ∙ ap (given_first b) (begins_with text rest f.1)

text_in : Text → Given → Text
text_in d none_given = d
text_in d (ended t) = t
text_in d (open_end t) = d

Ended : Given → Type 0
Ended none_given = ⊥
Ended (ended t) = Unit {0}
Ended (open_end t) = ⊥

isnt_ended : {A : Type 0} (g : Given) (t : Text) → (Ended g → ⊥) → g ≡ ended t → A
unfolding Ended
isnt_ended g t n h = absurd (n (subst Ended (sym h) tt))

record First (b : ℕ) (g : Given) (t : Text) : Type 0 where
  more : Text
  is : g ≡ ended more
  all : b ∷ more ≡ t

first_ended : (b : ℕ) (g : Given) (t : Text) → given_first b g ≡ ended t → First b g t
unfolding Ended text_in
first_ended b none_given t h = isnt_ended (open_end (b ∷ [])) t (λ x. x) h
first_ended b (ended s) t h = record { more = s; is = refl; all = ap (text_in []) h }
first_ended b (open_end s) t h = isnt_ended (open_end (b ∷ s)) t (λ x. x) h

given_is : (bytes text : Text) → given_line bytes ≡ ended text → FeedFree text × ((rest : Text) × (bytes ≡ with_feed text ++ rest))
unfolding Ended text_in
given_is [] text h = isnt_ended none_given text (λ x. x) h
given_is (b ∷ bytes) text h = by (b == 10) refl (given_is bytes) h
  where
    by : (x : Bool) → (b == 10) ≡ x → ((t : Text) → given_line bytes ≡ ended t →
        FeedFree t × ((rest : Text) × (bytes ≡ with_feed t ++ rest))) →
        (if x then ended [] else given_first b (given_line bytes)) ≡ ended text →
        FeedFree text × ((rest : Text) × (b ∷ bytes ≡ with_feed text ++ rest))
    by true e again k =
        let t : [] ≡ text = ap (text_in []) k in
        subst (λ z. FeedFree z × ((rest : Text) × (b ∷ bytes ≡ with_feed z ++ rest))) t (tt, (bytes, ap (λ z. z ∷ bytes) (same_nat b 10 e)))
    by false e again k =
        let f = first_ended b (given_line bytes) text k in
        let p = again f.more f.is in
        subst (λ z. FeedFree z × ((rest : Text) × (b ∷ bytes ≡ with_feed z ++ rest))) f.all
        ((feed_isnt b e, p.0), (p.1.0, ap (λ z. b ∷ z) p.1.1))

pub first_line_law : (text bytes : Text) → FirstLine text bytes
first_line_law text bytes = record { begins = λ rest f h. ap given_line h ∙ begins_with text rest f; is = given_is bytes text }

-- ---- line feeds

feeds_behind : (t rest : Text) → FeedFree t → feeds (t ++ rest) ≡ feeds rest
feeds_behind [] rest f = refl
feeds_behind (b ∷ t) rest f = ap (λ x. if x then suc (feeds (t ++ rest)) else feeds (t ++ rest)) (not_feed b f.0) ∙ feeds_behind t rest f.1

pub feeds_fed : (ws : List Want) → AllFeedFree ws → feeds (fed ws) ≡ length ws
feeds_fed [] f = refl
feeds_fed (w ∷ ws) f = ap feeds (append_assoc w.text line_feed (fed ws))
    ∙ (feeds_behind w.text (line_feed ++ fed ws) f.0 ∙ ap suc (feeds_fed ws f.1))
