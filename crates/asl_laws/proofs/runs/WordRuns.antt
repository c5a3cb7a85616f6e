-- Runs over words: one word after another; the text that stood before changes nothing else; and the bitfields of a word don't count, for a formal gives
-- its own.
use Rattle.std.proofs.Common.{◌≡◌, ℕ, Bool, true, false, ◌&&◌, cond, List, [], ◌∷◌, ◌++◌, Option, Some, None, refl, sym, ap, ◌∙◌}
use Rattle.std.specs.Prelude.{◌==◌, not, slice_get, codes, if◌then◌else◌}
use Rattle.asl_syn.specs.declared.token.Span.{Span}
use Rattle.asl_syn.specs.declared.tree.Formal.{Formal}
use Rattle.asl_syn.specs.declared.tree.Func.{Func}
use Rattle.asl_bits.specs.Lists.{bits_of}
use Rattle.asl_rules.specs.runs.Told.{appended, open_after}
use Rattle.asl_rules.specs.types.Closed as cl
use Rattle.asl_rules.specs.types.Closed.{Closed}
use Rattle.asl_rules.specs.types.Types.{View}
use Rattle.asl_rules.specs.values.Values.{Value, bits_with, has}
use Rattle.asl_rules.specs.types.Views.{viewed}
use Rattle.asl_rules.specs.types.Numbers.{Numbers, present}
use Rattle.asl_rules.specs.runs.States.{Binding, Core, of_type, kept, entered, resting}
use Rattle.asl_rules.specs.runs.Pures.{◌>>=◌, there, known}
use Rattle.asl_rules.specs.runs.Plans.{Meter, starting, wrote, Outcome, Done, Thrown, Halt, final, Pure, Good, Bad, lift, meanings, run}
use Rattle.asl_rules.specs.declarations.Programs.{Environment, Entries, funcs_of, origin}
use Rattle.asl_rules.specs.runs.Evaluation.{nodes, meaning, call_of, declare, declared, type_at, type_under, params_bound, formals_bound, entering, run_with, run_body}
use Rattle.asl_rules.specs.runs.Machines.{most_open, run_of}
use Rattle.asl_rules.specs.report.Texts.{line_feed}
use Rattle.asl_rules.specs.report.WordList.{Word}
use Rattle.asl_rules.specs.runs.Words.{WordsEnd, AllReturned, WordThrew, WordHalted, behind_word, digits_text, entry_for, is_short, run_word, run_words, word_digits, word_line, word_value, word_width, words_final}
use Rattle.asl_laws.proofs.runs.Budget.{After, self, on, put_after, run_after, grows}
use Rattle.asl_laws.proofs.runs.Shift.{retold, retold_end, Commutes, run_shift, shifts, behind, behind_commutes, behind_nothing, OwnText, own_text_kept, run_keeps, keeps}

-- ---- one word after another

-- words behind words that all returned
abbrev pub behind_words : (List Binding → Meter → WordsEnd) → WordsEnd → WordsEnd
behind_words rest (AllReturned globals h) = rest globals h
behind_words rest (WordThrew x globals h) = WordThrew x globals h
behind_words rest (WordHalted e globals h) = WordHalted e globals h

behind_twice : (f g : List Binding → Meter → WordsEnd) (k : List Binding → Meter → WordsEnd) → ((gs : List Binding) (h : Meter) → f gs h ≡ behind_words k (g gs h))
    → (r : Outcome Core (Option Value)) → behind_word f r ≡ behind_words k (behind_word g r)
behind_twice f g k same (Done o c h) = same c.globals h
behind_twice f g k same (Thrown x c h) = refl
behind_twice f g k same (Halt e c h) = refl

pub words_behind_words : (env : Environment) (es : Entries) (ms ns : List Word) (globals : List Binding) (h : Meter) →
    run_words env es (ms ++ ns) globals h ≡ behind_words (run_words env es ns) (run_words env es ms globals h)
words_behind_words env es [] ns globals h = refl
words_behind_words env es (m ∷ ms) ns globals h =
    behind_twice (run_words env es (ms ++ ns)) (run_words env es ms) (run_words env es ns) (words_behind_words env es ms ns)
    (run_word env (entry_for es m) m globals (wrote h (word_line h.text_open m)))

-- ---- texts only grow

pub run_of_after : (env : Environment) (id : ℕ) (args : List Value) (globals : List Binding) (h : Meter) → After h (final (run_of env id args globals h))
unfolding run_of
run_of_after env id args globals h = run_after (meanings (nodes env) most_open) (grows (nodes env) most_open) (call_of env id args (resting globals)) h

pub run_word_after : (env : Environment) (o : Option ℕ) (w : Word) (globals : List Binding) (h : Meter) →
    After h (final (run_word env o w globals h))
run_word_after env None w globals h = self h
run_word_after env (Some id) w globals h = run_of_after env id (word_value w ∷ []) globals h

word_after : (k : List Binding → Meter → WordsEnd) → ((gs : List Binding) (h : Meter) → After h (words_final (k gs h))) → (h : Meter) (r : Outcome Core (Option Value)) → After h (final r) → After h (words_final (behind_word k r))
word_after k each h (Done o c h1) a = on a (each c.globals h1)
word_after k each h (Thrown x c h1) a = a
word_after k each h (Halt e c h1) a = a

pub words_after : (env : Environment) (es : Entries) (ws : List Word) (globals : List Binding) (h : Meter) →
    After h (words_final (run_words env es ws globals h))
words_after env es [] globals h = self h
words_after env es (w ∷ ws) globals h =
    let line = word_line h.text_open w in
    word_after (run_words env es ws) (words_after env es ws) h (run_word env (entry_for es w) w globals (wrote h line))
    (on (put_after h line) (run_word_after env (entry_for es w) w globals (wrote h line)))

-- ---- the text that stood before

abbrev pub retold_words : (Option (List ℕ) → Option (List ℕ)) → WordsEnd → WordsEnd
retold_words F (AllReturned globals h) = AllReturned globals (retold F h)
retold_words F (WordThrew x globals h) = WordThrew x globals (retold F h)
retold_words F (WordHalted e globals h) = WordHalted e globals (retold F h)

run_of_shift : (F : Option (List ℕ) → Option (List ℕ)) → Commutes F → (env : Environment) (id : ℕ) (args : List Value) (globals : List Binding) (h : Meter) →
    run_of env id args globals (retold F h) ≡ retold_end F (run_of env id args globals h)
unfolding run_of
run_of_shift F k env id args globals h = run_shift F k (meanings (nodes env) most_open) (shifts F k (nodes env) most_open) (call_of env id args (resting globals)) h

run_word_shift : (F : Option (List ℕ) → Option (List ℕ)) → Commutes F →
    (env : Environment) (o : Option ℕ) (w : Word) (globals : List Binding) (h : Meter) →
    run_word env o w globals (retold F h) ≡ retold_end F (run_word env o w globals h)
run_word_shift F k env None w globals h = refl
run_word_shift F k env (Some id) w globals h = run_of_shift F k env id (word_value w ∷ []) globals h

word_shift : (F : Option (List ℕ) → Option (List ℕ)) (k : List Binding → Meter → WordsEnd) → ((gs : List Binding) (h : Meter) → k gs (retold F h) ≡ retold_words F (k gs h))
    → (r : Outcome Core (Option Value)) → behind_word k (retold_end F r) ≡ retold_words F (behind_word k r)
word_shift F k same (Done o c h) = same c.globals h
word_shift F k same (Thrown x c h) = refl
word_shift F k same (Halt e c h) = refl

pub words_shift : (F : Option (List ℕ) → Option (List ℕ)) → Commutes F →
    (env : Environment) (es : Entries) (ws : List Word) (globals : List Binding) (h : Meter) →
    run_words env es ws globals (retold F h) ≡ retold_words F (run_words env es ws globals h)
words_shift F k env es [] globals h = refl
words_shift F k env es (w ∷ ws) globals h =
    let line = word_line h.text_open w in
    ap (λ t. behind_word (run_words env es ws) (run_word env (entry_for es w) w globals (record (wrote h line) { told = t })))
    (sym (k h.told line))
    ∙ ap (behind_word (run_words env es ws)) (run_word_shift F k env (entry_for es w) w globals (wrote h line))
    ∙ word_shift F (run_words env es ws) (words_shift F k env es ws) (run_word env (entry_for es w) w globals (wrote h line))

-- words over a text are the words over no text, with their own text behind the other
pub words_behind : (env : Environment) (es : Entries) (ws : List Word) (globals : List Binding) (steps : ℕ) (old : Option (List ℕ)) →
    run_words env es ws globals (starting steps old) ≡ retold_words (behind old) (run_words env es ws globals (starting steps (Some [])))
words_behind env es ws globals steps old =
    ap (λ t. run_words env es ws globals (starting steps t)) (sym (behind_nothing old))
    ∙ words_shift (behind old) (behind_commutes old) env es ws globals (starting steps (Some []))

-- and these have a text of their own
run_of_keeps : (env : Environment) (id : ℕ) (args : List Value) (globals : List Binding) (h : Meter) → OwnText h → OwnText (final (run_of env id args globals h))
unfolding run_of
run_of_keeps env id args globals h p = run_keeps OwnText own_text_kept (meanings (nodes env) most_open) (keeps OwnText own_text_kept (nodes env) most_open) (call_of env id args (resting globals)) h p

run_word_keeps : (env : Environment) (o : Option ℕ) (w : Word) (globals : List Binding) (h : Meter) → OwnText h →
    OwnText (final (run_word env o w globals h))
run_word_keeps env None w globals h p = p
run_word_keeps env (Some id) w globals h p = run_of_keeps env id (word_value w ∷ []) globals h p

word_keeps : (k : List Binding → Meter → WordsEnd) → ((gs : List Binding) (h : Meter) → OwnText h → OwnText (words_final (k gs h))) → (r : Outcome Core (Option Value)) → OwnText (final r) → OwnText (words_final (behind_word k r))
word_keeps k each (Done o c h) p = each c.globals h p
word_keeps k each (Thrown x c h) p = p
word_keeps k each (Halt e c h) p = p

words_keep : (env : Environment) (es : Entries) (ws : List Word) (globals : List Binding) (h : Meter) → OwnText h →
    OwnText (words_final (run_words env es ws globals h))
words_keep env es [] globals h p = p
words_keep env es (w ∷ ws) globals h p =
    let line = word_line h.text_open w in
    word_keeps (run_words env es ws) (words_keep env es ws) (run_word env (entry_for es w) w globals (wrote h line))
    (run_word_keeps env (entry_for es w) w globals (wrote h line) (own_text_kept.wrote h line p))

pub words_own_text : (env : Environment) (es : Entries) (ws : List Word) (globals : List Binding) (steps : ℕ) →
    OwnText (words_final (run_words env es ws globals (starting steps (Some []))))
words_own_text env es ws globals steps =
    words_keep env es ws globals (starting steps (Some [])) (record { text = []; told = refl; text_open = refl })

-- ---- the line of a word

closed_behind : (xs rest : List ℕ) → ((b : Bool) → open_after b rest ≡ false) → (b : Bool) → open_after b (xs ++ rest) ≡ false
closed_behind [] rest h b = h b
closed_behind (x ∷ xs) rest h b = closed_behind xs rest h (not (x == 10))

digits_close : (n m : ℕ) (b : Bool) → open_after b (digits_text n m ++ line_feed) ≡ false
digits_close n m b = closed_behind (digits_text n m) line_feed (λ c. refl) b

word_closes : (short : Bool) (m : ℕ) (b : Bool) → open_after b (cond short (digits_text 4 m) (digits_text 8 m) ++ line_feed) ≡ false
word_closes true m b = digits_close 4 m b
word_closes false m b = digits_close 8 m b

line_closes : (b is_open : Bool) (w : Word) → open_after b (word_line is_open w) ≡ false
line_closes b is_open w =
    closed_behind (if is_open then line_feed else []) _
    (closed_behind (codes "word ") (word_digits w ++ line_feed) (word_closes (is_short w) w.bits)) b

-- so a call behind it begins as any call does
pub line_starts : (h : Meter) (w : Word) → wrote h (word_line h.text_open w) ≡ starting h.steps (appended h.told (word_line h.text_open w))
line_starts h w =
    ap (λ b. record { steps = h.steps; told = appended h.told (word_line h.text_open w); text_open = b }) (line_closes h.text_open h.text_open w)

-- ---- the bitfields of a word

-- whether bits belong to a type doesn't hang on their bitfields, and where they do, they get those of the type
gated : (T : Closed) (bs : List Bool) (v : View) (g : Bool) →
    cond (g && has (bits_with bs v) T) (Some (viewed T (bits_with bs v))) None ≡ cond (g && has (bits_with bs []) T) (Some (viewed T (bits_with bs []))) None
gated (cl.bits_of w u) bs v g = refl
gated (cl.named n supers T) bs v false = refl
gated (cl.named n supers T) bs v true = gated T bs v true
gated (cl.integer_in c) bs v false = refl
gated (cl.integer_in c) bs v true = refl
gated cl.boolean bs v false = refl
gated cl.boolean bs v true = refl
gated (cl.enumeration_of n ls) bs v false = refl
gated (cl.enumeration_of n ls) bs v true = refl
gated (cl.record_of n fs) bs v false = refl
gated (cl.record_of n fs) bs v true = refl
gated (cl.exception_of n fs) bs v false = refl
gated (cl.exception_of n fs) bs v true = refl
gated (cl.tuple_of ts) bs v false = refl
gated (cl.tuple_of ts) bs v true = refl
gated (cl.array_of n k T) bs v false = refl
gated (cl.array_of n k T) bs v true = refl

kept_plain : (T : Closed) (bs : List Bool) (v : View) → kept (of_type T) (bits_with bs v) ≡ kept (of_type T) (bits_with bs [])
kept_plain T bs v = gated T bs v true

declare_plain : (span : Span) (name : List ℕ) (o : Option Closed) (bs : List Bool) (v : View) (c : Core) →
    declare span name false (type_under o) (bits_with bs v) c ≡ declare span name false (type_under o) (bits_with bs []) c
declare_plain span name None bs v c = refl
declare_plain span name (Some T) bs v c = ap (λ k. there span k >>= λ y. Good (declared name y (of_type T) false c)) (kept_plain T bs v)

formals_plain : (env : Environment) (span : Span) (f : Numbers) (gs : List Formal) (bs : List Bool) (v : View) (c : Core) →
    formals_bound env span f gs (bits_with bs v ∷ []) c ≡ formals_bound env span f gs (bits_with bs [] ∷ []) c
formals_plain env span f [] bs v c = refl
formals_plain env span f (g ∷ gs) bs v c = ap (λ p. p >>= λ c1. formals_bound env span f gs [] c1) (declare_plain span g.name.text (type_at env f g.ty) bs v c)

bind_same : {A B : Type 0} (p : Pure A) (f g : A → Pure B) → ((x : A) → f x ≡ g x) → (p >>= f) ≡ (p >>= g)
bind_same (Good x) f g same = same x
bind_same (Bad e) f g same = refl

entering_plain : (env : Environment) (span : Span) (id : ℕ) (f : Func) (bs : List Bool) (v : View) (c : Core) →
    entering env span id f [] (bits_with bs v ∷ []) c ≡ entering env span id f [] (bits_with bs [] ∷ []) c
entering_plain env span id f bs v c =
    bind_same (params_bound env span f.params [] (entered id c)) _ _
    (λ c1. ap (λ p. p >>= λ c2. Good (record { params = c1; inner = c2 })) (formals_plain env span (present c1) f.formals bs v c1))

call_plain : (env : Environment) (id : ℕ) (bs : List Bool) (v : View) (c : Core) (o : Option Func) →
    lift (known origin o) c (λ f. run_with env f.name.span id f [] (bits_with bs v ∷ []) c)
    ≡ lift (known origin o) c (λ f. run_with env f.name.span id f [] (bits_with bs [] ∷ []) c)
call_plain env id bs v c None = refl
call_plain env id bs v c (Some f) = ap (λ p. lift p c (run_body env f c)) (entering_plain env f.name.span id f bs v c)

run_plain : (env : Environment) (id : ℕ) (bs : List Bool) (v : View) (globals : List Binding) (h : Meter) →
    run_of env id (bits_with bs v ∷ []) globals h ≡ run_of env id (bits_with bs [] ∷ []) globals h
unfolding run_of
run_plain env id bs v globals h = ap (λ p. run (meaning env most_open) p h) (call_plain env id bs v (resting globals) (slice_get (funcs_of env.decls) id))

viewed_bits : (T : Closed) (bs : List Bool) (v : View) → (u : View) × (viewed T (bits_with bs v) ≡ bits_with bs u)
viewed_bits (cl.named n supers T) bs v = viewed_bits T bs v
viewed_bits (cl.bits_of w u) bs v = (u, refl)
viewed_bits (cl.integer_in c) bs v = (v, refl)
viewed_bits cl.boolean bs v = (v, refl)
viewed_bits (cl.enumeration_of n ls) bs v = (v, refl)
viewed_bits (cl.record_of n fs) bs v = (v, refl)
viewed_bits (cl.exception_of n fs) bs v = (v, refl)
viewed_bits (cl.tuple_of ts) bs v = (v, refl)
viewed_bits (cl.array_of n k T) bs v = (v, refl)

-- a call with a word that has the bitfields of a type is the call with the word
pub run_viewed : (env : Environment) (id : ℕ) (T : Closed) (bs : List Bool) (globals : List Binding) (h : Meter) →
    run_of env id (viewed T (bits_with bs []) ∷ []) globals h ≡ run_of env id (bits_with bs [] ∷ []) globals h
run_viewed env id T bs globals h =
    let u = viewed_bits T bs [] in
    ap (λ x. run_of env id (x ∷ []) globals h) u.1 ∙ run_plain env id bs u.0 globals h

-- one word more: its line, and a call with the word in any type
pub words_step : (env : Environment) (es : Entries) (id : ℕ) (w : Word) (ws : List Word) (T : Closed) (globals : List Binding) (h : Meter) →
    entry_for es w ≡ Some id → run_words env es (w ∷ ws) globals h
    ≡ behind_word (run_words env es ws)
    (run_of env id (viewed T (word_value w) ∷ []) globals (starting h.steps (appended h.told (word_line h.text_open w))))
words_step env es id w ws T globals h is =
    ap (λ o. behind_word (run_words env es ws) (run_word env o w globals (wrote h (word_line h.text_open w)))) is
    ∙ ap (λ k. behind_word (run_words env es ws) (run_of env id (word_value w ∷ []) globals k)) (line_starts h w)
    ∙ ap (behind_word (run_words env es ws))
    (sym (run_viewed env id T (bits_of (word_width w) w.bits) globals (starting h.steps (appended h.told (word_line h.text_open w)))))
