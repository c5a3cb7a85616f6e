-- The state after one turn more: the same, or one declaration was judged, which was ready.
use Rattle.std.proofs.Common.{◌≡◌, ℕ, zero, suc, ◌⊎◌, inl, inr, List, [], ◌∷◌, Option, Some, None, refl, sym, ap, ◌∙◌, subst}
use Rattle.asl_syn.specs.declared.tree.Decl.{Decl}
use Rattle.asl_rules.specs.Tests.{Tests}
use Rattle.asl_rules.specs.declarations.Turns.{Judged, Waiting, SoFar, names_so_far, next_turn, decl_judged, judged_at, one_turn, turns, all_waiting}
use Rattle.asl_rules.specs.private.Judgements.{EachJudged, CameOf}
use Rattle.asl_rules.proofs.verdict.Turning.{each_map, Turn, ready_turn, JudgesOne, OneTurn, turned, Stays, Later}

-- what came of a declaration stays, if that didn't wait
pub came_later : (d : Decl) (j : Judged) (ds : List Decl) (js ks : SoFar) → Later js ks → CameOf d j ds js →
    (j ≡ Waiting) ⊎ CameOf d j ds ks
came_later d j [] js ks l i = absurd i
came_later d j (e ∷ es) [] ks l i = absurd i
came_later d j (e ∷ es) (m ∷ js) [] l i = absurd l
came_later d j (e ∷ es) (m ∷ js) (n ∷ ks) l (inl q) = by l.0
  where
    by : Stays m n → (j ≡ Waiting) ⊎ CameOf d j (e ∷ es) (n ∷ ks)
    by (inl w) = inl (sym q.1 ∙ w)
    by (inr r) = inr (inl (q.0, sym r ∙ q.1))
came_later d j (e ∷ es) (m ∷ js) (n ∷ ks) l (inr i) = by (came_later d j es js ks l.1 i)
  where
    by : (j ≡ Waiting) ⊎ CameOf d j es ks → (j ≡ Waiting) ⊎ CameOf d j (e ∷ es) (n ∷ ks)
    by (inl w) = inl w
    by (inr c) = inr (inr c)

module _ (t : Tests) (ds : List Decl) where
  abbrev pub turn_of : SoFar → SoFar
  turn_of js = one_turn t ds js (λ ks. ks) (next_turn ds js)

  last_turn : (n : ℕ) (js : SoFar) → turns t (suc n) ds js ≡ turn_of (turns t n ds js)
  last_turn zero js = refl
  last_turn (suc n) js = by (next_turn ds js) refl (last_turn n)
    where
      by : (o : Option ℕ) → next_turn ds js ≡ o → ((ks : SoFar) → turns t (suc n) ds ks ≡ turn_of (turns t n ds ks)) →
          one_turn t ds js (turns t (suc n) ds) o ≡ turn_of (one_turn t ds js (turns t n ds) o)
      by None q next = sym (ap (one_turn t ds js (λ ks. ks)) q)
      by (Some m) q next = next (judged_at t m ds js (names_so_far ds js))

  -- what came of each declaration after so many turns
  abbrev pub after : ℕ → SoFar
  after n = turns t n ds (all_waiting ds)

  -- from one state to the next
  abbrev pub Moves : SoFar → SoFar → Type 0
  Moves js ks = (js ≡ ks) ⊎ OneTurn t ds js ks

  moves : (js : SoFar) (o : Option ℕ) → next_turn ds js ≡ o → Moves js (one_turn t ds js (λ ks. ks) o)
  moves js None q = inl refl
  moves js (Some n) q = inr (turned t ds js n q)

  pub next_after : (n : ℕ) → Moves (after n) (after (suc n))
  next_after n = subst (Moves (after n)) (sym (last_turn n (all_waiting ds))) (moves (after n) (next_turn ds (after n)) refl)

  -- what holds of each declaration before a turn holds in its way after it, where it does of the one that was judged
  module _ (P Q : Decl → Judged → Type 0) (js ks : SoFar) (o : OneTurn t ds js ks)
      (stays : (d : Decl) (j : Judged) → CameOf d j ds ks → P d j → Q d j)
      (judges : (d : Decl) → Turn ds js d → CameOf d (decl_judged t d (names_so_far ds js)) ds ks →
      Q d (decl_judged t d (names_so_far ds js))) where
    each_at_once : (es : List Decl) (ls ms : SoFar) → ((d : Decl) (j : Judged) → CameOf d j es ms → CameOf d j ds ks) →
        JudgesOne t ds js es ls ms → EachJudged P es ls → EachJudged Q es ms
    each_at_once [] ls ms c h a = absurd h
    each_at_once (e ∷ es) [] ms c h a = absurd h
    each_at_once (e ∷ es) (l ∷ ls) [] c h a = absurd h
    each_at_once (e ∷ es) (l ∷ ls) (m ∷ ms) c (inl h) a = (
      subst (λ z. Q e z) h.1 (judges e (ready_turn ds js e l h.0).1 (c e (decl_judged t e (names_so_far ds js)) (inl (refl, sym h.1)))),
      each_map P Q es ms (λ d j i. stays d j (c d j (inr i))) (subst (EachJudged P es) h.2 a.1),
    )
    each_at_once (e ∷ es) (l ∷ ls) (m ∷ ms) c (inr h) a =
        (stays e m (c e m (inl (refl, refl))) (subst (λ z. P e z) h.0 a.0), each_at_once es ls ms (λ d j i. c d j (inr i)) h.1 a.1)

    pub next_holds : EachJudged P ds js → EachJudged Q ds ks
    next_holds = each_at_once ds js ks (λ d j i. i) o
