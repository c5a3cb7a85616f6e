-- A turn leads from one state of the names and of the marks to the next.
use Rattle.std.proofs.Common.{◌≡◌, ℕ, zero, suc, ◌+◌, ◌<◌, ◌≤◌, Bool, true, false, cond, List, [], ◌∷◌, length, map, set, replicate, get_or}
use Rattle.std.proofs.Common.{Option, Some, None, refl, sym, ap, ◌∙◌, subst, arith}
use Rattle.std.proofs.lemmas.Option.{slice_get_within}
use Rattle.asl_syn.specs.declared.tree.Decl.{Decl}
use Rattle.asl_rules.specs.Tests.{Tests}
use Rattle.asl_rules.specs.declarations.Names.{library, all_declared}
use Rattle.asl_rules.specs.declarations.Scopes.{Entry, subprogram}
use Rattle.asl_rules.specs.declarations.Turns.{Judged, Waiting, Fine, Faulty, SoFar, is_waiting, is_fine, reserved, names_so_far}
use Rattle.asl_rules.specs.declarations.Turns.{takes_turn, decl_judged, all_waiting, final, names_of_program}
use Rattle.asl_rules.specs.declarations.Turns as rules
use Rattle.asl_rules.proofs.basics.Tests.{some_same}
use Rattle.asl_rules.proofs.verdict.Distinct.{Distinct}
use Rattle.asl_rules.proofs.verdict.Named.{AllStand}
use Rattle.asl_names.specs.private.Graphs.{graph_of}
use Rattle.asl_names.proofs.Bridge.{At}
use Rattle.asl_turns.specs.Graphs.{Graph}
use Rattle.asl_turns.specs.Turns.{Marked, begun, with_settled}
use Rattle.asl_turns.specs.Turns as turns
use Rattle.asl_judge.specs.private.Settling.{CameBy, HaveStandIns, brings, all_settled, all_reserved}
use Rattle.asl_judge.specs.private.Waiting.{turns_after}
use Rattle.asl_judge.proofs.Places.{Kept, kept_at, first_names, first_stand}
use Rattle.asl_judge.proofs.Marking.{marked, Chosen, chosen, turn_is, marked_after, first_marked, few_wait}
use Rattle.asl_judge.proofs.Taking.{Left, first_left, one_left, none_left}

-- the names and the marks are those of what came so far
pub record IsState (ds : List Decl) (js : SoFar) (N : List Entry) (m : Marked) : Type 0 where
  pub names : N ≡ names_so_far ds js
  pub stand : AllStand ds js
  pub marks : m ≡ marked ds js

-- ---- before the first turn

none_judged : (ds : List Decl) → replicate (length ds) Waiting ≡ all_waiting ds
none_judged [] = refl
none_judged (d ∷ ds) = ap (λ js. Waiting ∷ js) (none_judged ds)

pub first_judged : (ds : List Decl) (js : SoFar) → js ≡ replicate (length ds) Waiting → js ≡ all_waiting ds
first_judged ds js h = h ∙ none_judged ds

pub first_state : (ds : List Decl) (js : SoFar) (names : List Entry) (g : Graph) (ws : List Bool) (m : Marked) → js ≡ all_waiting ds →
    names ≡ all_reserved ds (map subprogram library) →
    g ≡ graph_of ds → ws ≡ turns_after [] ds → m ≡ begun g ws → IsState ds js names m
first_state ds js names g ws m j n q w h = record {
  names = first_names ds names n ∙ ap (names_so_far ds) (sym j);
  stand = subst (AllStand ds) (sym j) (first_stand ds);
  marks = first_marked ds g ws m q w h ∙ ap (marked ds) (sym j);
}

pub first_turns : (t : Tests) (ds : List Decl) (js : SoFar) (names : List Entry) (m : Marked) → js ≡ all_waiting ds → IsState ds js names m →
    Left t ds js (turns.waits m.waiting)
first_turns t ds js names m j s =
    first_left t ds js (turns.waits m.waiting) j (subst (λ z. turns.waits z.waiting ≤ length ds) (sym s.marks) (few_wait ds js))

-- ---- a turn

came_judged : (rs : List Entry) (k : Judged) → CameBy rs k → is_waiting k ≡ false
came_judged rs Waiting c = absurd c
came_judged rs (Fine es) c = refl
came_judged rs (Faulty f) c = refl

pub at_index : {A : Type 0} (xs : List A) (n : ℕ) (x : A) → n < length xs → x ≡ get_or xs n x → At xs n x
at_index [] n x h e = absurd (omega (arith, h))
at_index (y ∷ xs) zero x h e = ap Some (sym e)
at_index (y ∷ xs) (suc n) x h e = at_index xs n x (omega (arith, h)) e

-- the declaration at a place whose turn it is
pub record IsTurn (ds : List Decl) (js : SoFar) (n : ℕ) (d : Decl) : Type 0 where
  pub at : At ds n d
  pub takes : takes_turn d ≡ true
  pub waiting : At js n Waiting

module _ (ds : List Decl) (distinct : Distinct (all_declared ds)) (js : SoFar) (names : List Entry) (m : Marked)
    (s : IsState ds js names m) where
  -- whose turn it is, by the marks
  turn_of : (o : Option ℕ) → o ≡ turns.next_turn m → rules.next_turn ds js ≡ o
  turn_of o h = sym (h ∙ ap turns.next_turn s.marks ∙ turn_is ds distinct js)

  pub chosen_at : (n : ℕ) → Some n ≡ turns.next_turn m → Chosen ds js n
  chosen_at n h = chosen ds js n (turn_of (Some n) h)

  pub within_decls : (n : ℕ) → Some n ≡ turns.next_turn m → n < length ds
  within_decls n h = let c = chosen_at n h in slice_get_within ds n c.decl c.at

  pub within_judged : (n : ℕ) → Some n ≡ turns.next_turn m → n < length js
  within_judged n h = slice_get_within js n Waiting (chosen_at n h).waiting

  pub turn_at : (n : ℕ) (d : Decl) → Some n ≡ turns.next_turn m → At ds n d → IsTurn ds js n d
  turn_at n d h a =
      let c = chosen_at n h in
      let q : c.decl ≡ d = some_same c.decl d (sym c.at ∙ a) in
      record { at = a; takes = subst (λ z. takes_turn z ≡ true) q c.takes; waiting = c.waiting }

  module _ (n : ℕ) (d : Decl) (turn : IsTurn ds js n d) (k : Judged) (came : CameBy (reserved d) k) where
    kept : Kept ds js n k
    kept = kept_at ds js n d k s.stand distinct turn.at turn.waiting turn.takes came

    -- what the declaration brings has its stand-ins
    pub may_settle : HaveStandIns (brings k) names
    may_settle = subst (HaveStandIns (brings k)) (sym s.names) kept.have

    -- and then the state is that in which it was judged so
    pub next_state : (ks : SoFar) (more : List Entry) (b : Bool) (p a : Marked) → ks ≡ set js n k → more ≡ all_settled (brings k) names →
        b ≡ is_fine k →
        p ≡ turns.turned (Some n) m → a ≡ cond b (with_settled n p) p → IsState ds ks more a
    next_state ks more b p a q e f g h = record {
      names = e ∙ ap (all_settled (brings k)) s.names ∙ kept.names ∙ ap (names_so_far ds) (sym q);
      stand = subst (AllStand ds) (sym q) kept.stand;
      marks =
          marked_after ds js n k p a turn.waiting (came_judged (reserved d) k came) (g ∙ ap (turns.turned (Some n)) s.marks)
          (h ∙ ap (λ c. cond c (with_settled n p) p) f)
          ∙ ap (marked ds) (sym q);
    }

  -- ---- the turns that are left

  pub next_left : (t : Tests) (n : ℕ) (d : Decl) (k : Judged) (ks : SoFar) (w v : ℕ) → Left t ds js w → Some n ≡ turns.next_turn m →
      IsTurn ds js n d → k ≡ decl_judged t d names → ks ≡ set js n k → 1 + v ≡ w → Left t ds ks v
  next_left t n d k ks w v l h turn j q f =
      subst (λ z. Left t ds z v) (sym q)
      (one_left t ds js n d Waiting k v w (turn_of (Some n) h) turn.at turn.waiting (j ∙ ap (decl_judged t d) s.names) f l)

  pub end_judged : (t : Tests) (w : ℕ) → Left t ds js w → None ≡ turns.next_turn m → js ≡ final t ds
  end_judged t w l h = none_left t ds js w (turn_of None h) l

  pub end_names : (t : Tests) (w : ℕ) → Left t ds js w → None ≡ turns.next_turn m → names ≡ names_of_program t ds
  end_names t w l h = s.names ∙ ap (names_so_far ds) (end_judged t w l h)
