-- A program that is checked with the entries that words need has that of each word.
use Rattle.std.proofs.Common.{◌≡◌, Bool, true, false, cond, ◌||◌, not, ◌⊎◌, inl, inr, List, [], ◌∷◌, refl, ap}
use Rattle.std.specs.Prelude.{◌==◌}
use Rattle.std.specs.List.{All}
use Rattle.std.proofs.lemmas.List.Elements.{All-cons, All-head, All-nil, All-tail}
use Rattle.asl_rules.specs.declared.entry.Entry.{Entry}
use Rattle.asl_rules.specs.declared.entry.Entry.TheVariants.{Decode, Decode16, Both}
use Rattle.asl_rules.specs.report.WordList.{Word}
use Rattle.asl_rules.specs.runs.Words.{is_short, some_long, some_short, wanted}
use Rattle.asl_words.specs.Shapes.{HasShape, IsNamed}

-- what is wanted, by whether there are words of 16 and of 32 bits
abbrev wants : Bool → Bool → Entry
wants short long = cond short (cond long Both Decode16) Decode

long_named : (short long : Bool) → long ≡ true → (wants short long ≡ Decode) ⊎ (wants short long ≡ Both)
long_named true true h = inr refl
long_named false true h = inl refl
long_named short false h = cc h

short_named : (short long : Bool) → short ≡ true → (wants short long ≡ Decode16) ⊎ (wants short long ≡ Both)
short_named true true h = inr refl
short_named true false h = inl refl
short_named false long h = cc h

-- the first word
one_named : (short long : Bool) (w : Word) → (is_short w ≡ true → short ≡ true) → (is_short w ≡ false → long ≡ true) → HasShape w → IsNamed (wants short long) w
one_named short long w s l (inl eight) = inl (eight, long_named short long (l (ap (λ n. n == 4) eight)))
one_named short long w s l (inr four) = inr (four, short_named short long (s (ap (λ n. n == 4) four.0)))

or_left : (b c : Bool) → b ≡ true → (b || c) ≡ true
or_left true c h = refl
or_left false c h = cc h

or_right : (b c : Bool) → c ≡ true → (b || c) ≡ true
or_right true c h = refl
or_right false c h = h

each_named : (short long : Bool) (ws : List Word) → (some_short ws ≡ true → short ≡ true) → (some_long ws ≡ true → long ≡ true) → All HasShape ws → All (IsNamed (wants short long)) ws
each_named short long [] s l h = All-nil (IsNamed (wants short long))
each_named short long (w ∷ ws) s l h =
    All-cons (IsNamed (wants short long)) w ws
    (one_named short long w (λ e. s (or_left (is_short w) (some_short ws) e)) (λ e. l (or_left (not (is_short w)) (some_long ws) (ap not e))) (All-head HasShape w ws h))
    (each_named short long ws (λ e. s (or_right (is_short w) (some_short ws) e)) (λ e. l (or_right (not (is_short w)) (some_long ws) e)) (All-tail HasShape w ws h))

pub all_named : (ws : List Word) → All HasShape ws → All (IsNamed (wanted ws)) ws
all_named ws h = each_named (some_short ws) (some_long ws) ws (λ e. e) (λ e. e) h
