-- Text that is written in pieces.
use Rattle.std.proofs.Common.{◌≡◌, ◌≢◌, ℕ, zero, suc, ◌<◌, ◌==◌, Bool, false, cond, List, [], ◌∷◌, ◌++◌, length, get_or, take, drop, Option, Err, refl, sym, ap, ◌∙◌, subst, arith, append_assoc}
use Rattle.asl_rules.specs.values.Strings.{escaped, unescaped}
use Rattle.asl_rules.specs.runs.Told.{appended, open_after, Part}
use Rattle.asl_rules.proofs.basics.Pieces.{appended_twice, takes_first, takes_then}
use Rattle.asl_value.proofs.Endings.{open_then}
use Rattle.asl_branches.specs.declared.stop.Stop.{Stop}
use Rattle.asl_branches.specs.declared.stop.Stop.TheVariants as stop
use Rattle.asl_branches.specs.Meets.{Writes, WroteFront}
use Rattle.asl_run.specs.private.Pieces.{piece_text}

-- ---- strings

apart : (a : ℕ) → a ≢ 92 → (a == 92) ≡ false
apart a h = grind arith

-- bytes without a backslash stand for themselves
pub unescaped_front : (n : ℕ) (s : List ℕ) → n < length s → ((k : ℕ) → k < n → get_or s k 0 ≢ 92) → unescaped s ≡ take n s ++ unescaped (drop n s)
unescaped_front zero s h p = refl
unescaped_front (suc n) [] h p = absurd (omega (arith, h))
unescaped_front (suc n) (a ∷ []) h p = absurd (omega (arith, h))
unescaped_front (suc n) (a ∷ b ∷ s) h p =
    ap (λ t. cond t (escaped b ∷ unescaped s) (a ∷ unescaped (b ∷ s))) (apart a (p 0 (omega arith))) ∙
    ap (λ l. a ∷ l) (unescaped_front n (b ∷ s) (omega (arith, h)) (λ k q. p (suc k) (omega (arith, q))))

-- the first piece of a text is an escape, or has none
pub splits_escape : (s : List ℕ) → 1 < length s → get_or s 0 0 ≡ 92 → unescaped s ≡ piece_text (take 2 s) ++ unescaped (drop 2 s)
splits_escape [] h e = absurd (omega (arith, h))
splits_escape (a ∷ []) h e = absurd (omega (arith, h))
splits_escape (a ∷ b ∷ s) h e =
    ap (λ x. cond (x == 92) (escaped b ∷ unescaped s) (a ∷ unescaped (b ∷ s))) e ∙ ap (λ x. cond (x == 92) (escaped b ∷ []) (a ∷ b ∷ []) ++ unescaped s) (sym e)

pub piece_escape : (s : List ℕ) → 1 < length s → get_or s 0 0 ≡ 92 → piece_text s ≡ escaped (get_or s 1 0) ∷ []
piece_escape [] h e = absurd (omega (arith, h))
piece_escape (a ∷ []) h e = absurd (omega (arith, h))
piece_escape (a ∷ b ∷ s) h e = ap (λ x. cond (x == 92) (escaped b ∷ []) (a ∷ b ∷ s)) e

pub piece_plain : (s : List ℕ) → (1 < length s → get_or s 0 0 ≢ 92) → piece_text s ≡ s
piece_plain [] h = refl
piece_plain (a ∷ []) h = refl
piece_plain (a ∷ b ∷ s) h = ap (λ t. cond t (escaped b ∷ []) (a ∷ b ∷ s)) (apart a (h (omega arith)))

first_taken : (n : ℕ) (s : List ℕ) → 1 < length (take n s) → get_or (take n s) 0 0 ≡ get_or s 0 0
first_taken zero s h = absurd (omega (arith, h))
first_taken (suc n) [] h = refl
first_taken (suc n) (a ∷ s) h = refl

pub splits_plain : (s : List ℕ) (n : ℕ) → n < length s → ((k : ℕ) → k < n → get_or s k 0 ≢ 92) → get_or s 0 0 ≢ 92 → unescaped s ≡ piece_text (take n s) ++ unescaped (drop n s)
splits_plain s n h p q = unescaped_front n s h p ∙ ap (λ l. l ++ unescaped (drop n s)) (sym (piece_plain (take n s) (λ k e. q (sym (first_taken n s k) ∙ e))))

-- a front, and a piece behind it
pub front_more : (bytes rest piece more : List ℕ) (o o1 o2 : Bool) (t t1 t2 : Option (List ℕ)) → WroteFront bytes rest o t o1 t1 → rest ≡ piece ++ more → t2 ≡ appended t1 piece → o2 ≡ open_after o1 piece → WroteFront bytes more o t o2 t2
front_more bytes rest piece more o o1 o2 t t1 t2 a e told opened = record {
  front = a.front ++ piece;
  whole = a.whole ∙ ap (λ l. a.front ++ l) e ∙ sym (append_assoc a.front piece more);
  told_is = told ∙ ap (λ q. appended q piece) a.told_is ∙ appended_twice t a.front piece;
  open_is = opened ∙ ap (λ q. open_after q piece) a.open_is ∙ open_then o a.front piece;
}

-- a front, and a part of a piece behind it
pub front_cut : (bytes rest piece more : List ℕ) (o o1 : Bool) (t t1 u : Option (List ℕ)) → WroteFront bytes rest o t o1 t1 → rest ≡ piece ++ more → Part t1 u piece → Part t u bytes
front_cut bytes rest piece more o o1 t t1 u a e p = subst (Part t u) (sym a.whole) (takes_then t t1 u a.front rest a.told_is (subst (Part t1 u) (sym e) (takes_first t1 u piece more p)))

-- a refused piece, where all before it was written
pub refused_piece : (e : Stop) (bytes s f : List ℕ) (n : ℕ) (o o1 o2 : Bool) (t t1 t2 : Option (List ℕ)) → WroteFront bytes (unescaped s) o t o1 t1 → f ≡ take n s → unescaped s ≡ piece_text (take n s) ++ unescaped (drop n s) →
    Writes (Err e) (piece_text f) o1 t1 o2 t2 → Writes (Err e) bytes o t o2 t2
refused_piece stop.NoMemory bytes s f n o o1 o2 t t1 t2 a e k w = absurd w
refused_piece stop.SinkFault bytes s f n o o1 o2 t t1 t2 a e k w = front_cut bytes (unescaped s) (piece_text (take n s)) (unescaped (drop n s)) o o1 t t1 t2 a k (subst (λ p. Part t1 t2 (piece_text p)) e w)
refused_piece (stop.Thrown x) bytes s f n o o1 o2 t t1 t2 a e k w = absurd w
refused_piece (stop.Fault code span) bytes s f n o o1 o2 t t1 t2 a e k w = absurd w
refused_piece (stop.Stuck mistake span) bytes s f n o o1 o2 t t1 t2 a e k w = absurd w
