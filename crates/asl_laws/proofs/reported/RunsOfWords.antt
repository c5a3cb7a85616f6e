-- Calls of entries, one for each word, aren't stuck: each leaves the globals as the next one needs them.
use Rattle.std.proofs.Common.{◌≡◌, ℕ, Bool, true, false, cond, ◌||◌, not, List, [], ◌∷◌, Option, Some, refl, sym, subst}
use Rattle.std.specs.Prelude.{codes}
use Rattle.asl_bits.specs.Lists.{bits_of}
use Rattle.asl_bits.proofs.Lists.{length-bits_of}
use Rattle.asl_syn.specs.declared.tree.Decl.{Decl}
use Rattle.asl_rules.specs.declared.entry.Entry.TheVariants as entry
use Rattle.asl_rules.specs.private.Agreement.{GlobalsMatch, no_atoms}
use Rattle.asl_rules.specs.types.Closed.{type_with}
use Rattle.asl_rules.specs.runs.Plans.{Done, Faulted, Halt, Meter, Outcome, Stuck, Thrown, wrote}
use Rattle.asl_rules.specs.declarations.Programs.{Accepted, entry_from, environment, is_decode, is_decode16, takes_word}
use Rattle.asl_laws.specs.Soundness.{KeepsGlobals, NotStuck, Soundness}
use Rattle.asl_rules.specs.runs.States.{Binding, Core}
use Rattle.asl_rules.specs.Tests.{Tests}
use Rattle.asl_rules.specs.values.Values.{Value, bits_with}
use Rattle.asl_rules.specs.report.WordList.{Word}
use Rattle.asl_rules.specs.runs.Machines.{run_of}
use Rattle.asl_rules.specs.runs.Words.{WordsEnd, behind_word, entry_for, is_short, run_word, run_words, some_long, some_short, wanted, word_line, word_value}
use Rattle.asl_laws.proofs.reported.Asked.{HasAsked, IsFound, both_there, decode16_there, decode_there}
use Rattle.asl_laws.proofs.runs.WordRuns.{run_viewed}
use Rattle.asl_laws.proofs.soundness.SoundnessEntry.{only_formal, word_call, word_for}
use Rattle.asl_laws.specs.Reported.{WordsNotStuck}

-- ---- the entries that words need are there

abbrev Shorts : Accepted → Bool → Type 0
Shorts a true = IsFound is_decode16 a.signatures a.entries.entry16
Shorts a false = Unit {0}

abbrev Longs : Accepted → Bool → Type 0
Longs a true = IsFound is_decode a.signatures a.entries.main
Longs a false = Unit {0}

asked_there : (a : Accepted) (short long : Bool) → HasAsked (cond short (cond long entry.Both entry.Decode16) entry.Decode) a →
    Shorts a short × Longs a long
asked_there a true true h = let b = both_there a h in (b.1, b.0)
asked_there a true false h = (decode16_there a h, tt)
asked_there a false true h = (tt, decode_there a h)
asked_there a false false h = (tt, tt)

-- that of one word, by whether it has 16 bits
abbrev pub HasEntry : Accepted → Bool → Type 0
HasEntry a true = IsFound is_decode16 a.signatures a.entries.entry16
HasEntry a false = IsFound is_decode a.signatures a.entries.main

abbrev pub HaveEntries : Accepted → List Word → Type 0
HaveEntries a [] = Unit {0}
HaveEntries a (w ∷ ws) = HasEntry a (is_short w) × HaveEntries a ws

short_rest : (a : Accepted) (b rest : Bool) → Shorts a (b || rest) → Shorts a rest
short_rest a true true s = s
short_rest a true false s = tt
short_rest a false rest s = s

long_rest : (a : Accepted) (b rest : Bool) → Longs a (not b || rest) → Longs a rest
long_rest a false true s = s
long_rest a false false s = tt
long_rest a true rest s = s

first_has : (a : Accepted) (b shorts longs : Bool) → Shorts a (b || shorts) → Longs a (not b || longs) → HasEntry a b
first_has a true shorts longs s l = s
first_has a false shorts longs s l = l

each_has : (a : Accepted) (ws : List Word) → Shorts a (some_short ws) → Longs a (some_long ws) → HaveEntries a ws
each_has a [] s l = tt
each_has a (w ∷ ws) s l = (
  first_has a (is_short w) (some_short ws) (some_long ws) s l,
  each_has a ws (short_rest a (is_short w) (some_short ws) s) (long_rest a (is_short w) (some_long ws) l),
)

pub have_entries : (a : Accepted) (ws : List Word) → HasAsked (wanted ws) a → HaveEntries a ws
have_entries a ws h = let t = asked_there a (some_short ws) (some_long ws) h in each_has a ws t.0 t.1

-- ---- calls

module _ (t : Tests) (ds : List Decl) (a : Accepted) (sound : Soundness t ds a) where
  -- the words behind a call
  behind_call : (rest : List Binding → Meter → WordsEnd) → ((globals : List Binding) (h : Meter) → GlobalsMatch a.names globals → WordsNotStuck (rest globals h))
      → (r : Outcome Core (Option Value)) → NotStuck r → KeepsGlobals a.names r → WordsNotStuck (behind_word rest r)
  behind_call rest each (Done x c h) n m = each c.globals h m
  behind_call rest each (Thrown x c h) n m = tt
  behind_call rest each (Halt (Faulted code span) c h) n m = tt
  behind_call rest each (Halt (Stuck mistake span) c h) n m = n

  abbrev Goes : Outcome Core (Option Value) → Type 0
  Goes r = NotStuck r × KeepsGlobals a.names r

  -- the call with the word as it is does what the call does with the bitfields of the formal
  one_call : (name : List ℕ) (width n : ℕ) (id : ℕ) (globals : List Binding) (h : Meter) →
      entry_from (takes_word name width) 0 a.signatures ≡ Some id
      → GlobalsMatch a.names globals → Goes (run_of (environment t ds) id (bits_with (bits_of width n) [] ∷ []) globals h)
  one_call name width n id globals h first m =
      let d = word_call a id globals m name width first (bits_of width n) (length-bits_of width n) in
      let args = word_for d.signature.formals (bits_of width n) ∷ [] in
      subst Goes (run_viewed (environment t ds) id (type_with (only_formal d.signature.formals) no_atoms) (bits_of width n) globals h)
      (sound.never_stuck id args globals h d.call, sound.keeps_globals id args globals h d.call)

  by_width : (b : Bool) (n : ℕ) (w : Word) (globals : List Binding) (h : Meter) → HasEntry a b → GlobalsMatch a.names globals →
      word_value w ≡ bits_with (bits_of (cond b 16 32) n) []
      → Goes (run_word (environment t ds) (cond b a.entries.entry16 a.entries.main) w globals h)
  by_width true n w globals h f m e =
      subst (λ o. Goes (run_word (environment t ds) o w globals h)) (sym f.there)
      (subst (λ x. Goes (run_of (environment t ds) f.id (x ∷ []) globals h)) (sym e)
      (one_call (codes "decode16") 16 n f.id globals h f.first m))
  by_width false n w globals h f m e =
      subst (λ o. Goes (run_word (environment t ds) o w globals h)) (sym f.there)
      (subst (λ x. Goes (run_of (environment t ds) f.id (x ∷ []) globals h)) (sym e)
      (one_call (codes "decode") 32 n f.id globals h f.first m))

  one_word : (w : Word) (globals : List Binding) (h : Meter) → HasEntry a (is_short w) → GlobalsMatch a.names globals
      → Goes (run_word (environment t ds) (entry_for a.entries w) w globals h)
  one_word w globals h f m = by_width (is_short w) w.bits w globals h f m refl

  pub words_not_stuck : (ws : List Word) (globals : List Binding) (h : Meter) → HaveEntries a ws → GlobalsMatch a.names globals
      → WordsNotStuck (run_words (environment t ds) a.entries ws globals h)
  words_not_stuck [] globals h f m = tt
  words_not_stuck (w ∷ ws) globals h f m =
      let begun = wrote h (word_line h.text_open w) in
      let one = one_word w globals begun f.0 m in
      behind_call (run_words (environment t ds) a.entries ws) (λ gs k n. words_not_stuck ws gs k f.1 n)
      (run_word (environment t ds) (entry_for a.entries w) w globals begun) one.0 one.1
