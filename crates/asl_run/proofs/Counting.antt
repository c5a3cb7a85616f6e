-- The turns of a `for` whose body is empty: they change nothing, so whether the limit lets through as many as there are indices is all that counts.
use Rattle.std.proofs.Common.{◌≡◌, ℕ, zero, suc, ◌<◌, ◌≤◌, Bool, true, false, List, [], ◌∷◌, length, refl, ap, ◌∙◌, arith}
use Rattle.std.proofs.Math.Seq.{take-append_seam}
use Rattle.std.proofs.lemmas.Int.{ints}
use Rattle.std.specs.Prelude.{ℤ, pos, ◌+ℤ◌, ◌-ℤ◌, unsigned_abs}
use Rattle.asl_syn.specs.declared.token.Span.{Span}
use Rattle.asl_syn.specs.declared.code.DynCode.TheVariants.{D10}
use Rattle.asl_syn.specs.declared.tree.Direction.{Direction}
use Rattle.asl_syn.specs.declared.tree.Direction.TheVariants.{Up, Down}
use Rattle.asl_rules.specs.runs.Plans.{Meter, Meaning, Faulted, Ret, Done, Halt, choose, run}
use Rattle.asl_rules.specs.runs.StatementForms.{is_past, next_index, index_turn}
use Rattle.asl_rules.specs.runs.Trees.{Tree, Act}
use Rattle.asl_rules.specs.private.TypedMeaning.{BareCore, Runs, acts_of, in_bare, indexed, with_next}
use Rattle.asl_rules.specs.values.Values.{Value, Exit, Normal, int}
use Rattle.asl_tree.specs.Acts.{all_acts}
use Rattle.asl_tree.specs.declared.act.Act.{Act as TypedAct}
use Rattle.asl_tree.specs.declared.act.TreeFunc.{TreeFunc}
use Rattle.asl_branches.specs.View.{meaning_of}

-- ---- indices

-- the index so many turns later
abbrev later : Direction → ℤ → ℕ → ℤ
later Up i n = i +ℤ pos n
later Down i n = i -ℤ pos n

last_passed : (d : Direction) (last i : ℤ) → last ≡ later d i 0 → is_past d last (next_index d i) ≡ true
last_passed Up last i e = grind (arith, ints)
last_passed Down last i e = grind (arith, ints)

more_left : (d : Direction) (last i : ℤ) (n : ℕ) → last ≡ later d i (suc n) → is_past d last (next_index d i) ≡ false
more_left Up last i n e = grind (arith, ints)
more_left Down last i n e = grind (arith, ints)

one_nearer : (d : Direction) (last i : ℤ) (n : ℕ) → last ≡ later d i (suc n) → last ≡ later d (next_index d i) n
one_nearer Up last i n e = grind (arith, ints)
one_nearer Down last i n e = grind (arith, ints)

-- how many turns later the last index comes
last_later : (d : Direction) (last i : ℤ) → is_past d last i ≡ false → last ≡ later d i (unsigned_abs (last -ℤ i))
last_later Up last i e = grind (arith, ints)
last_later Down last i e = grind (arith, ints)

-- ---- turns

-- the scope of an index ends with it
unchanged : (c : BareCore) (x : Value) → in_bare.cut (length c.frame) (with_next (x ∷ []) c) ≡ c
unchanged c x = ap (λ (l : List Value). record c { frame = l }) (take-append_seam c.frame (x ∷ []))

abbrev behind : Span → Direction → ℤ → ℕ → ℤ → Bool → BareCore → Runs Exit
behind span d last n i b c = choose b (Ret Normal c) (index_turn in_bare indexed span d last [] n (next_index d i) c)

turned : (m : Meaning BareCore Tree Act) (span : Span) (d : Direction) (last : ℤ) (n : ℕ) (i : ℤ) (c : BareCore) (h : Meter) (b : Bool) → is_past d last (next_index d i) ≡ b →
    run m (index_turn in_bare indexed span d last [] (suc n) i c) h ≡ run m (behind span d last n i b c) h
turned m span d last n i c h b e =
    ap (λ c1. run m (behind span d last n i (is_past d last (next_index d i)) c1) h) (unchanged c (int i)) ∙
    ap (λ b1. run m (behind span d last n i b1 c) h) e

-- the limit lets all turns through
all_turned : (m : Meaning BareCore Tree Act) (span : Span) (d : Direction) (last : ℤ) (n k : ℕ) (i : ℤ) (c : BareCore) (h : Meter) → last ≡ later d i k → k < n → run m (index_turn in_bare indexed span d last [] n i c) h ≡ Done Normal c h
all_turned m span d last zero k i c h e l = absurd (omega (arith, l))
all_turned m span d last (suc n) zero i c h e l = turned m span d last n i c h true (last_passed d last i e)
all_turned m span d last (suc n) (suc k) i c h e l = turned m span d last n i c h false (more_left d last i k e) ∙ all_turned m span d last n k (next_index d i) c h (one_nearer d last i k e) (omega (arith, l))

-- it doesn't
limit_met : (m : Meaning BareCore Tree Act) (span : Span) (d : Direction) (last : ℤ) (n k : ℕ) (i : ℤ) (c : BareCore) (h : Meter) → last ≡ later d i k → n ≤ k → run m (index_turn in_bare indexed span d last [] n i c) h ≡ Halt (Faulted D10 span) c h
limit_met m span d last zero k i c h e l = refl
limit_met m span d last (suc n) zero i c h e l = absurd (omega (arith, l))
limit_met m span d last (suc n) (suc k) i c h e l = turned m span d last n i c h false (more_left d last i k e) ∙ limit_met m span d last n k (next_index d i) c h (one_nearer d last i k e) (omega (arith, l))

-- ---- an empty body

pub empty_ended : (fs : List TreeFunc) (d : ℕ) (span : Span) (dir : Direction) (last : ℤ) (ss : List TypedAct) (n : ℕ) (i : ℤ) (c : BareCore) (h : Meter) → ss ≡ [] → is_past dir last i ≡ false → unsigned_abs (last -ℤ i) < n →
    run (meaning_of fs d) (index_turn in_bare indexed span dir last (acts_of (all_acts ss)) n i c) h ≡ Done Normal c h
empty_ended fs d span dir last ss n i c h none within l =
    ap (λ ts. run (meaning_of fs d) (index_turn in_bare indexed span dir last (acts_of (all_acts ts)) n i c) h) none ∙ all_turned (meaning_of fs d) span dir last n (unsigned_abs (last -ℤ i)) i c h (last_later dir last i within) l

pub empty_limited : (fs : List TreeFunc) (d : ℕ) (span : Span) (dir : Direction) (last : ℤ) (ss : List TypedAct) (n : ℕ) (i : ℤ) (c : BareCore) (h : Meter) → ss ≡ [] → is_past dir last i ≡ false → n ≤ unsigned_abs (last -ℤ i) →
    run (meaning_of fs d) (index_turn in_bare indexed span dir last (acts_of (all_acts ss)) n i c) h ≡ Halt (Faulted D10 span) c h
empty_limited fs d span dir last ss n i c h none within l =
    ap (λ ts. run (meaning_of fs d) (index_turn in_bare indexed span dir last (acts_of (all_acts ts)) n i c) h) none ∙ limit_met (meaning_of fs d) span dir last n (unsigned_abs (last -ℤ i)) i c h (last_later dir last i within) l
