-- The answer over the lines that are left.
use Rattle.std.proofs.Common.{◌≡◌, ℕ, ◌+◌, ◌-◌, take, drop, get_or, ◌<◌, ◌≤◌, Bool, true, false, cond, not, List, [], ◌∷◌, ◌++◌, length, map, Option, Some, None, Result, Ok, Err, refl, sym, ap, ◌∙◌, arith, inl, inr}
use Rattle.std.specs.Prelude.{filter, if◌then◌else◌}
use Rattle.std.specs.List.{after_first, before_first, cons_option, enumerate_from, filter_map, position_or_len, slice_split}
use Rattle.std.proofs.lemmas.Bool.{cases_lt}
use Rattle.std.proofs.lemmas.List.{append_assoc, append-nil, drop_all, length-drop, length_push, take_all}
use Rattle.std.proofs.lemmas.List.Splits.{slice_split_first, slice_split_none}
use Rattle.std.proofs.lemmas.List.Sums.{fails_before_first, position_or_len_is}
use Rattle.asl_rules.specs.report.WordList.{ListFault, Word, fault_of, is_line_end, is_passed_over, without_end, word_in, words_read, words_unless}
use Rattle.asl_words.specs.private.Steps.{pushed, with_line, word_unless}
use Rattle.asl_words.specs.private.Faults.{Says}
use Rattle.asl_words.specs.declared.WordFault.{WordFault}
use Rattle.asl_words.specs.declared.WordFault.TheVariants.{Length, Digit, TooMany, NoMemory}

-- the answer, from the words so far and the lines that write the others
abbrev pub answer_of : List Word → List (ℕ × List ℕ) → Result (List Word) ListFault
answer_of words lines =
    words_unless (filter_map (λ nth. fault_of nth.0 nth.1) (enumerate_from (length words + 1) lines)) (words ++ map (λ line. word_in line.1) lines)

-- the answer, from the words so far, the number of the next line and the text's parts from there on
abbrev pub answer_from : List Word → ℕ → List (List ℕ) → Result (List Word) ListFault
answer_from words number parts =
    answer_of words (filter (λ line. not (is_passed_over line.1)) (enumerate_from number (map without_end parts)))

-- the answer behind a line
abbrev pub answer_behind : Result (List Word) ListFault → ℕ → List (List ℕ) → Result (List Word) ListFault
answer_behind (Ok words) number parts = answer_from words number parts
answer_behind (Err fault) number parts = Err fault

-- behind a line with this fault, or none, and this word
answer_of-word : (words : List Word) (number : ℕ) (word : Word) (parts : List (List ℕ)) (o : Option ListFault)
    → words_unless (cons_option o (filter_map (λ nth. fault_of nth.0 nth.1) (enumerate_from (length words + 1 + 1) (filter (λ line. not (is_passed_over line.1)) (enumerate_from number (map without_end parts))))))
    (words ++ (word ∷ map (λ line. word_in line.1) (filter (λ line. not (is_passed_over line.1)) (enumerate_from number (map without_end parts)))))
    ≡ answer_behind (pushed words (word_unless o word)) number parts
answer_of-word words number word parts None = rw (length_push words word, append_assoc words (word ∷ []) _) refl
answer_of-word words number word parts (Some fault) = refl

-- behind a line that is passed over, or isn't
answer_of-line : (words : List Word) (line : List ℕ) (number : ℕ) (parts : List (List ℕ)) (passed : Bool)
    → answer_of words (cond (not passed) ((number, line) ∷ filter (λ line. not (is_passed_over line.1)) (enumerate_from (number + 1) (map without_end parts))) (filter (λ line. not (is_passed_over line.1)) (enumerate_from (number + 1) (map without_end parts))))
    ≡ answer_behind (if passed then Ok words else pushed words (word_unless (fault_of (length words + 1) (number, line)) (word_in line))) (number + 1) parts
answer_of-line words line number parts true = refl
answer_of-line words line number parts false =
    answer_of-word words (number + 1) (word_in line) parts (fault_of (length words + 1) (number, line))

-- one line more
answer_from-line : (words : List Word) (part : List ℕ) (number : ℕ) (parts : List (List ℕ))
    → answer_from words number (part ∷ parts) ≡ answer_behind (with_line words (without_end part) number) (number + 1) parts
answer_from-line words part number parts =
    answer_of-line words (without_end part) number parts (is_passed_over (without_end part))

-- a blank line more changes nothing
answer_behind-blank : (r : Result (List Word) ListFault) (number : ℕ) → answer_behind r number ([] ∷ []) ≡ answer_behind r number []
answer_behind-blank (Ok words) number = refl
answer_behind-blank (Err fault) number = refl

-- where no byte ends a line, the text is its first line
no_end : (text : List ℕ) → length text ≤ position_or_len is_line_end text → (before_first is_line_end text ≡ text) × (after_first is_line_end text ≡ []) × (slice_split is_line_end text ≡ text ∷ [])
no_end text h = (
  take_all _ text h,
  drop_all _ text (omega arith),
  slice_split_none is_line_end text (λ k d lt. fails_before_first is_line_end text k d (omega arith)),
)

-- the first line of a text, and the rest
pub answer_from-first : (words : List Word) (text : List ℕ) (number : ℕ)
    → answer_from words number (slice_split is_line_end text)
    ≡ answer_behind (with_line words (without_end (before_first is_line_end text)) number) (number + 1) (slice_split is_line_end (after_first is_line_end text))
answer_from-first words text number =
    elim (cases_lt (position_or_len is_line_end text) (length text)) [
      | inl some ↦ rw (slice_split_first is_line_end text 0 some) (answer_from-line words (before_first is_line_end text) number (slice_split is_line_end (after_first is_line_end text)))
      | inr none ↦
          let whole = no_end text none in
          rw (whole.2, whole.0, whole.1) (answer_from-line words text number [] ∙ sym (answer_behind-blank (with_line words (without_end text) number) (number + 1)))
    ]

-- the whole text
pub answer_from-start : (text : List ℕ) → words_read text ≡ answer_from [] 1 (slice_split is_line_end text)
unfolding words_read
answer_from-start text = refl

-- the end of the text
pub answer_from-end : (words : List Word) (text : List ℕ) (number : ℕ) → length text ≡ 0 → answer_from words number (slice_split is_line_end text) ≡ Ok words
answer_from-end words [] number h = ap Ok (append-nil words)
answer_from-end words (b ∷ text) number h = cc h

-- the text is cut at the first byte that ends a line
pub cut_at : (text : List ℕ) (i : ℕ) → i < length text → ((k : ℕ) → k < i → is_line_end (get_or text k 0) ≡ false) → get_or text i 0 ≡ 10
    → (take i text ≡ before_first is_line_end text) × (take (length text - (i + 1)) (drop (i + 1) text) ≡ after_first is_line_end text)
cut_at text i within before here =
    let place = position_or_len_is is_line_end text i 0 (omega arith) before (λ _. rw here refl) in
    (rw place refl, rw place (take_all _ _ (simp length-drop (omega arith))))

-- or else it is a line itself
pub cut_nowhere : (text front back : List ℕ) → ((k : ℕ) → k < length text → is_line_end (get_or text k 0) ≡ false) → front ≡ take (length text) text → back ≡ drop (length text) text
    → (front ≡ before_first is_line_end text) × (back ≡ after_first is_line_end text)
cut_nowhere text front back before ef eb =
    let place = position_or_len_is is_line_end text (length text) 0 (omega arith) before (λ lt. absurd (omega arith)) in
    let whole = no_end text (omega arith) in
    (ef ∙ take_all _ text (omega arith) ∙ sym whole.0, eb ∙ drop_all _ text (omega arith) ∙ sym whole.1)

-- what is left gets shorter
pub length-after_first : (text : List ℕ) → 0 < length text → length (after_first is_line_end text) + 1 ≤ length text
length-after_first text some = simp length-drop (omega arith)

-- one line more is read
pub read_more : (bytes rest line more cut : List ℕ) (words ws : List Word) (number : ℕ) → words_read bytes ≡ answer_from words (number + 1) (slice_split is_line_end rest)
    → line ≡ before_first is_line_end rest → more ≡ after_first is_line_end rest → cut ≡ without_end line → with_line words cut (number + 1) ≡ Ok ws
    → words_read bytes ≡ answer_from ws (number + 1 + 1) (slice_split is_line_end more)
read_more bytes rest line more cut words ws number inv el em ec ok =
    let step : with_line words (without_end (before_first is_line_end rest)) (number + 1) ≡ Ok ws = rw (← el, ← ec) ok in
    rw em (inv ∙ answer_from-first words rest (number + 1) ∙ rw step refl)

-- the fault of a line is that of the text
read_fault : (bytes rest line cut : List ℕ) (words : List Word) (number : ℕ) (fault : ListFault) → words_read bytes ≡ answer_from words (number + 1) (slice_split is_line_end rest)
    → line ≡ before_first is_line_end rest → cut ≡ without_end line → with_line words cut (number + 1) ≡ Err fault
    → words_read bytes ≡ Err fault
read_fault bytes rest line cut words number fault inv el ec bad =
    let step : with_line words (without_end (before_first is_line_end rest)) (number + 1) ≡ Err fault = rw (← el, ← ec) bad in
    inv ∙ answer_from-first words rest (number + 1) ∙ rw step refl

-- what the fault of a line says of it, it says of the text
pub says_fault : (bytes rest line cut : List ℕ) (words : List Word) (number : ℕ) (fault : WordFault) → words_read bytes ≡ answer_from words (number + 1) (slice_split is_line_end rest)
    → line ≡ before_first is_line_end rest → cut ≡ without_end line → Says fault (with_line words cut (number + 1)) → Says fault (words_read bytes)
says_fault bytes rest line cut words number (Length n) inv el ec h = read_fault bytes rest line cut words number _ inv el ec h
says_fault bytes rest line cut words number (Digit n) inv el ec h = read_fault bytes rest line cut words number _ inv el ec h
says_fault bytes rest line cut words number (TooMany n) inv el ec h = read_fault bytes rest line cut words number _ inv el ec h
says_fault bytes rest line cut words number NoMemory inv el ec h = tt
