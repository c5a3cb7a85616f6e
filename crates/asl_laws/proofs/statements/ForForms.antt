-- `for` with its typed tree: the index stands in the next place in each turn, and lies between the bounds.
use Rattle.std.proofs.Common.{◌≡◌, ℕ, zero, suc, ◌≤◌, ℤ, pos, negsuc, ◌≤ℤ◌, ◌+ℤ◌, ◌-ℤ◌, Bool, true, false, cond, ◌||◌, List, [], ◌∷◌, ◌++◌, length, map, Option, Some, Result, Ok, Err, refl, sym, ap, ◌∙◌, subst, append_assoc, arith}
use Rattle.std.proofs.lemmas.Bool.Decides.{nat_tests}
use Rattle.std.proofs.lemmas.Int.{ints}
use Rattle.std.specs.Prelude.{nat_lt}
use Rattle.asl_syn.specs.declared.token.Span.{Span}
use Rattle.asl_syn.specs.declared.code.Fault.{Fault}
use Rattle.asl_syn.specs.declared.code.StaticCode.TheVariants.{T01, T05}
use Rattle.asl_syn.specs.declared.tree.Ident.{Ident}
use Rattle.asl_syn.specs.declared.tree.Direction.{Direction}
use Rattle.asl_syn.specs.declared.tree.Direction.TheVariants.{Up, Down}
use Rattle.asl_syn.specs.declared.tree.Expr.{Expr}
use Rattle.asl_syn.specs.declared.tree.Stmt.{Stmt}
use Rattle.asl_syn.specs.declared.tree.Alternative.TheOpen as st
use Rattle.asl_syn.specs.declared.tree.Decl.{Decl}
use Rattle.asl_cons.specs.declared.End.{End}
use Rattle.asl_cons.specs.declared.End.TheVariants.{Int}
use Rattle.asl_cons.specs.Arithmetic as cons
use Rattle.asl_rules.specs.declared.effect.Effect.TheVariants.{Pure}
use Rattle.asl_rules.specs.Faults.{need}
use Rattle.asl_rules.specs.Tests.{Tests, IsRight}
use Rattle.asl_rules.specs.types.Types.{Ty, integer_of, is_integer}
use Rattle.asl_rules.specs.types.Closed as cl
use Rattle.asl_rules.specs.types.Views.{viewed}
use Rattle.asl_rules.specs.types.Closed.{Closed, Assignment, floor, ceiling, range_in, type_with, width_at, end_at, in_one, not_above}
use Rattle.asl_rules.specs.types.Effects.{greater, all_together}
use Rattle.asl_rules.specs.values.Operators.{less}
use Rattle.asl_rules.specs.declarations.Scopes.{Scope, Entry, Signature, body_names, with_names, fixed, atom_at, next_atom, is_free}
use Rattle.asl_rules.specs.private.WellFormed.{WellFormed}
use Rattle.asl_rules.specs.runs.Trees as tree
use Rattle.asl_rules.specs.runs.Trees.{TreeFunc, Act}
use Rattle.asl_rules.specs.expressions.Typing.{Typed, Width}
use Rattle.asl_rules.specs.types.Writing.{WrittenPart, range_rule, range_of_widths, range_of_numbers}
use Rattle.asl_rules.specs.expressions.Exprs.{found, typed, width}
use Rattle.asl_rules.specs.statements.Acting.{Done, Listed, done, block, operand_of}
use Rattle.asl_rules.specs.statements.Branches.{limit_typed, limit_fits, tree_in, of_range, index_type, index_rule, for_rule, with_index as index_body}
use Rattle.asl_rules.specs.statements.Stmts.{found_stmt}
use Rattle.asl_rules.specs.values.Values.{Value, int, Exit, Normal, has}
use Rattle.asl_rules.specs.runs.States.{Under, of_value, Core}
use Rattle.asl_rules.specs.private.Belonging.{InType, has_type}
use Rattle.asl_rules.specs.private.Agreement.{types_in, Agrees, SameOn}
use Rattle.asl_rules.specs.runs.Plans.{Eval, Ret, Raise, choose, lift}
use Rattle.asl_rules.specs.runs.StatementForms.{leave, scope_from, scope_with, whole_number, limited, is_past, next_index, index_turn, index_turns}
use Rattle.asl_rules.specs.runs.Evaluation.{Does, frames, declared, with_index}
use Rattle.asl_rules.specs.private.TypedMeaning.{BareCore, Runs, in_bare, acts_of, indexed, with_next}
use Rattle.asl_rules.specs.private.Erasure.{erased, values_of}
use Rattle.asl_rules.proofs.basics.Inversions.{ok_ok, bind_ok, then_ok, need_ok}
use Rattle.asl_rules.proofs.basics.Tests.{or_first, and_true, no}
use Rattle.asl_rules.proofs.values.Constrained.{is_not_above}
use Rattle.asl_rules.proofs.expressions.OperatorForms.{is_int}
use Rattle.asl_rules.proofs.scopes.Naming.{WellNamed, well_declared}
use Rattle.asl_laws.proofs.scopes.WellTyped.{integer_formed}
use Rattle.asl_laws.proofs.scopes.HeldRules.{range_by}
use Rattle.asl_laws.proofs.widths.PresentNumbers.{counts_held}
use Rattle.asl_laws.proofs.widths.WholeWidths.{whole_floor, whole_ceiling, whole_ends, atom_counts}
use Rattle.asl_rules.proofs.widths.WidthsHeld.{CountsHeld}
use Rattle.asl_laws.proofs.scopes.ScopesOver.{type_same_on}
use Rattle.asl_laws.proofs.scopes.BodiesOver.{index_type_over}
use Rattle.asl_laws.proofs.scopes.ScopesKept.{GoodScope, index_scope}
use Rattle.asl_laws.proofs.scopes.Moved.{agrees_moved, extended, extended_at, extended_same}
use Rattle.asl_laws.proofs.scopes.Agreeing.{declared_agrees, erased_declared}
use Rattle.asl_laws.proofs.expressions.Claims.{Here, Asked, of_width, of_number, IsWidth, Answers, GivesAsked, StmtClaim, At}
use Rattle.asl_laws.proofs.expressions.TreePlans.{operand, operand_also, append_nil}
use Rattle.asl_rules.proofs.scopes.Longer.{Longer, list_longer, same_on_fewer, same_on_both}
use Rattle.asl_laws.proofs.statements.StmtForms.{here, Held, OutAct, ActSame, Acted, acted, operand_typed, ended_is}
use Rattle.asl_laws.proofs.statements.ListForms.{moved, onward, held_onward, list_same, cut_agrees, values_length, erased_cut}
use Rattle.asl_laws.proofs.statements.BranchForms.{later_on, after_same, normal_end, limit_same}

-- ---- integers between the bounds

nat_not_less : (m n : ℕ) → nat_lt m n ≡ false → n ≤ m
nat_not_less m n h = grind (arith, nat_tests)

two_pos : (m n : ℕ) → m ≤ n → pos m ≤ℤ pos n
two_pos m n h = grind (arith, ints)

two_negsuc : (m n : ℕ) → n ≤ m → negsuc m ≤ℤ negsuc n
two_negsuc m n h = grind (arith, ints)

mixed : (m n : ℕ) → negsuc m ≤ℤ pos n
mixed m n = grind (arith, ints)

not_less : (x y : ℤ) → less x y ≡ false → y ≤ℤ x
not_less (pos m) (pos n) h = two_pos n m (nat_not_less m n h)
not_less (pos m) (negsuc n) h = mixed n m
not_less (negsuc m) (pos n) h = no (sym h)
not_less (negsuc m) (negsuc n) h = two_negsuc n m (nat_not_less n m h)

same_not_above : (x : ℤ) → x ≤ℤ x
same_not_above x = grind (arith, ints)

above_next : (x y : ℤ) → x ≤ℤ y → x ≤ℤ (y +ℤ pos 1)
above_next x y h = grind (arith, ints)

next_below : (x y : ℤ) → y ≤ℤ x → (y -ℤ pos 1) ≤ℤ x
next_below x y h = grind (arith, ints)

abbrev Between : Direction → ℤ → ℤ → ℤ → Type 0
Between Up first last i = (first ≤ℤ i) × (i ≤ℤ last)
Between Down first last i = (last ≤ℤ i) × (i ≤ℤ first)

begins_between : (d : Direction) (first last : ℤ) → is_past d last first ≡ false → Between d first last first
begins_between Up first last h = (same_not_above first, not_less last first h)
begins_between Down first last h = (not_less first last h, same_not_above first)

next_between : (d : Direction) (first last i : ℤ) → Between d first last i → is_past d last (next_index d i) ≡ false → Between d first last (next_index d i)
next_between Up first last i b h = (above_next first i b.0, not_less last (i +ℤ pos 1) h)
next_between Down first last i b h = (not_less (i -ℤ pos 1) last h, next_below first i b.1)

-- the index belongs to its type
abbrev Holds_index : Assignment → Ty → Direction → ℤ → ℤ → Type 0
Holds_index a T d first last = (i : ℤ) → Between d first last i → has_type a (int i) T ≡ true

in_range_of : (a : Assignment) (l h : End) (y v i : ℤ) → ceiling (end_at l a) ≡ y → floor (end_at h a) ≡ v → y ≤ℤ i → i ≤ℤ v →
    has_type a (int i) (integer_of (cons.part l h ∷ [])) ≡ true
in_range_of a l h y v i e f p q =
    or_first (in_one i (range_in (end_at l a) (end_at h a))) false
    (and_true (not_above (ceiling (end_at l a)) i) (not_above i (floor (end_at h a)))
    (is_not_above (ceiling (end_at l a)) i (subst (λ z. z ≤ℤ i) (sym e) p))
    (is_not_above i (floor (end_at h a)) (subst (λ z. i ≤ℤ z) (sym f) q)))

-- the integer of a width is whole, so it is the end of a range that the width is
width_ends : (a : Assignment) (W : Width) (x : Value) → IsWidth a W.poly x →
    (ceiling (end_at (cons.shown W.poly) a) ≡ width_at W.poly a) × (floor (end_at (cons.shown W.poly) a) ≡ width_at W.poly a)
width_ends a W x o = whole_ends a W.poly (width_at W.poly a) o.2 o.1

pub viewed_int : (C : Closed) (z : ℤ) → viewed C (int z) ≡ int z
viewed_int (cl.named n supers C) z = viewed_int C z
viewed_int C z = refl

module _ (tests : Tests) (right : IsRight tests) (ds : List Decl) (base : List Entry) (subs : List Signature) (loose : Bool) (funcs : List TreeFunc) (w : WellNamed base) where
  abbrev HeldAt : StmtClaim → Core → Type 0
  HeldAt j c = Held tests right ds base subs loose funcs w j c

  abbrev Both : StmtClaim → Bool → Does Exit → Runs Exit → Type 0
  Both j b p q = ActSame tests right ds base subs loose funcs w j b p q

  abbrev spot : StmtClaim → Here
  spot j = here tests right ds base subs loose funcs w j

  -- ---- a list in whose scope a name stands before it

  cut_behind : (j : StmtClaim) (entry : Entry) (names : List Entry) (a : Assignment) (c c1 : Core) → HeldAt j c → Longer (j.body.scope.names ++ entry ∷ []) names → Agrees base names a c1 → Agrees base j.body.scope.names a (frames.cut (length c.frame) c1)
  cut_behind j entry names a c c1 held m k =
      cut_agrees base j.body.scope.names (entry ∷ m.more) j.present a c c1 held.at.agrees (subst (λ ns. Agrees base ns a c1) (m.is ∙ append_assoc j.body.scope.names (entry ∷ []) m.more) k)

  with_entry : (j : StmtClaim) (entry : Entry) (x : Value) (u : Under) (a : Assignment) (l : Listed) (ss : List Stmt) (c : Core) → block (map (found_stmt tests) ss) (body_names j.body (j.body.scope.names ++ entry ∷ [])) ≡ Ok l →
      HeldAt j c → j.body.scope.names ≡ j.done.names → SameOn j.body.scope.names j.present a → Agrees base (j.body.scope.names ++ entry ∷ []) a (declared entry.name x u false c) → GoodScope tests (with_names j.body.scope (j.body.scope.names ++ entry ∷ [])) →
      Both j true (scope_from frames (length c.frame) ss (declared entry.name x u false c)) (scope_from in_bare (length (values_of c.frame)) (acts_of l.acts) (with_next (x ∷ []) (erased c)))
  with_entry j entry x u a l ss c h held names s more good =
      let c2 = declared entry.name x u false c in
      let later = j.body.scope.names ++ entry ∷ [] in
      let longer : Longer j.body.scope.names later = record { more = entry ∷ []; is = refl } in
      let n = length c.frame in
      let held2 = held_onward tests right ds base subs loose funcs w j later a c c2 held longer s more held.at.around_is good in
      subst (λ d. Both j true (scope_from frames n ss c2) (scope_from in_bare (length (values_of c.frame)) (acts_of l.acts) d)) (erased_declared entry.name x u false c)
      (subst (λ m. Both j true (scope_from frames n ss c2) (scope_from in_bare m (acts_of l.acts) (erased c2))) (sym (values_length c.frame))
      (list_same tests right ds base subs loose funcs w (onward tests right ds base subs loose funcs w j later a) Pure l
      (λ y z c1. Both j true (leave frames n y c1) (leave in_bare n z (erased c1)))
      (λ y c1. Both j true (Raise y c1) (Raise y (erased c1))) ss c2 h held2
      (λ c1 m q. (
        erased_cut n c1,
        (
          refl,
          record {
            reached = refl;
            later = m.later;
            same = same_on_both j.body.scope.names j.present a m.later s (same_on_fewer j.body.scope.names later a m.later longer m.same);
            agrees = subst (λ ns. Agrees base ns m.later (frames.cut n c1)) names (cut_behind j entry l.names m.later c c1 held (list_longer tests ss Pure (body_names j.body later) l h) m.agrees);
            around_is = m.around_is;
          },
        ),
      ))
      (λ o c1 m. (erased_cut n c1, (refl, record { gives = m.gives; more = []; later = m.later; agrees = subst (λ ns. Agrees base ns m.later (frames.cut n c1)) (sym (append_nil j.body.scope.names)) (cut_agrees base j.body.scope.names (entry ∷ m.more) j.present m.later c c1 held.at.agrees (subst (λ ns. Agrees base ns m.later c1) (append_assoc j.body.scope.names (entry ∷ []) m.more) m.agrees)); around_is = m.around_is })))
      (λ y c1 m. (refl, refl, record { raised = m.raised; writes = m.writes; more = entry ∷ m.more; later = m.later; same = same_on_both j.body.scope.names j.present a m.later s (same_on_fewer j.body.scope.names later a m.later longer m.same); agrees = subst (λ ns. Agrees base ns m.later c1) (append_assoc j.body.scope.names (entry ∷ []) m.more) m.agrees; around_is = m.around_is }))))

  -- ---- turns

  -- what a loop asks of its index and its list
  record Loop (j : StmtClaim) (i : Ident) (d : Direction) (a b : Expr) (ss : List Stmt) (l : Listed) : Type 0 where
    free : is_free i.text j.body.scope.names ≡ true
    listed : block (map (found_stmt tests) ss) (index_body i (index_type tests d a b j.body.scope) j.body) ≡ Ok l
    formed : WellFormed (types_in base) (index_type tests d a b j.body.scope)
    names : j.body.scope.names ≡ j.done.names

  index_list : (j : StmtClaim) (i : Ident) (d : Direction) (a b : Expr) (ss : List Stmt) (l : Listed) (z : ℤ) (c : Core) → Loop j i d a b ss l → has_type j.present (int z) (index_type tests d a b j.body.scope) ≡ true → HeldAt j c →
      Both j true (scope_with frames (with_index i (int z)) ss c) (scope_with in_bare (indexed (int z)) (acts_of l.acts) (erased c))
  index_list j i d a b ss l z c k t held =
      let names = j.body.scope.names in
      let T : Ty = index_type tests d a b j.body.scope in
      let n = next_atom names in
      let later = extended n z j.present in
      let entry : Entry = fixed i.text T (Some (atom_at n)) in
      let s = extended_same names z j.present in
      let e : type_with T j.present ≡ type_with T later = type_same_on names j.present later T s (index_type_over tests _ d a b j.body.scope held.scope_good.over.counts) in
      let in_it : InType (types_in base) later (int z) T = (subst (λ C. has (int z) C ≡ true) e t, tt, viewed_int (type_with T later) z) in
      let before = agrees_moved base names j.present later c held.scope_good.over.each s held.at.agrees in
      let more : Agrees base (names ++ entry ∷ []) later (declared i.text (int z) (of_value (int z)) false c) =
      declared_agrees base names later c entry (int z) (of_value (int z)) false before k.free (refl, refl, λ m. no m)
      (record { name_is = refl; under_is = in_it; mutable_is = refl; well_formed = k.formed; belongs = in_it; known = tt; counts = atom_counts later n (int z) z refl (extended_at n z j.present) }) in
      with_entry j entry (int z) (of_value (int z)) later l ss c k.listed held k.names s more (index_scope tests i d a b j.body k.free held.scope_good)

  type_later : (j : StmtClaim) (d : Direction) (a b : Expr) (later : Assignment) (c : Core) → HeldAt j c → SameOn j.body.scope.names j.present later → type_with (index_type tests d a b j.body.scope) j.present ≡ type_with (index_type tests d a b j.body.scope) later
  type_later j d a b later c held s = type_same_on j.body.scope.names j.present later (index_type tests d a b j.body.scope) s (index_type_over tests _ d a b j.body.scope held.scope_good.over.counts)

  -- the end of a loop, or one turn more
  or_next : (x : Bool) (j : StmtClaim) (p : Does Exit) (q : Runs Exit) (c : Core) → At tests base subs loose (spot j) c → j.body.scope.names ≡ j.done.names → (x ≡ false → Both j true p q) → Both j true (choose x (Ret Normal c) p) (choose x (Ret Normal (erased c)) q)
  or_next true j p q c at names f = normal_end tests right ds base subs loose funcs w j c at names
  or_next false j p q c at names f = f refl

  index_turn_same : (n : ℕ) (j : StmtClaim) (span : Span) (i : Ident) (d : Direction) (a b : Expr) (ss : List Stmt) (l : Listed) (first last z : ℤ) (c : Core) → Loop j i d a b ss l → Holds_index j.present (index_type tests d a b j.body.scope) d first last → Between d first last z → HeldAt j c →
      Both j true (index_turn frames (with_index i) span d last ss n z c) (index_turn in_bare indexed span d last (acts_of l.acts) n z (erased c))
  index_turn_same zero j span i d a b ss l first last z c k t p held = (refl, refl, held.at.agrees.globals)
  index_turn_same (suc n) j span i d a b ss l first last z c k t p held =
      let next = next_index d z in
      after_same tests right ds base subs loose funcs w j
      (λ c2. choose (is_past d last next) (Ret Normal c2) (index_turn frames (with_index i) span d last ss n next c2))
      (λ c2. choose (is_past d last next) (Ret Normal c2) (index_turn in_bare indexed span d last (acts_of l.acts) n next c2))
      (scope_with frames (with_index i (int z)) ss c) (scope_with in_bare (indexed (int z)) (acts_of l.acts) (erased c)) c held k.names
      (λ later c1 s h.
      let j1 = later_on tests right ds base subs loose funcs w j later in
      or_next (is_past d last next) j1 (index_turn frames (with_index i) span d last ss n next c1) (index_turn in_bare indexed span d last (acts_of l.acts) n next (erased c1)) c1 h.at k.names
      (λ e. index_turn_same n j1 span i d a b ss l first last next c1 (record { free = k.free; listed = k.listed; formed = k.formed; names = k.names })
      (λ m q. subst (λ C. has (int m) C ≡ true) (type_later j d a b later c held s) (t m q)) (next_between d first last z p e) h))
      (index_list j i d a b ss l z c k (t z p) held)

  index_turns_same : (n : ℕ) (j : StmtClaim) (span : Span) (i : Ident) (d : Direction) (a b : Expr) (ss : List Stmt) (l : Listed) (first last : ℤ) (c : Core) → Loop j i d a b ss l → Holds_index j.present (index_type tests d a b j.body.scope) d first last → HeldAt j c →
      Both j true (index_turns frames (with_index i) span d last ss n first c) (index_turns in_bare indexed span d last (acts_of l.acts) n first (erased c))
  index_turns_same n j span i d a b ss l first last c k t held =
      or_next (is_past d last first) j (index_turn frames (with_index i) span d last ss n first c) (index_turn in_bare indexed span d last (acts_of l.acts) n first (erased c)) c held.at k.names
      (λ e. index_turn_same n j span i d a b ss l first last first c k t (begins_between d first last e) held)

  -- ---- bounds

  abbrev Go : Type 1
  Go = Value → Value → Core → Does Exit

  abbrev Run_on : Type 1
  Run_on = Value → Value → BareCore → Runs Exit

  -- what follows the bounds, where the index lies in its type
  abbrev Follows : StmtClaim → Direction → Ty → Go → Run_on → Type 0
  Follows j d T k l = (first last : ℤ) (c : Core) → Holds_index j.present T d first last → At tests base subs loose (spot j) c → Both j true (k (int first) (int last) c) (l (int first) (int last) (erased c))

  bounds_known : (j : StmtClaim) (d : Direction) (T : Ty) (a b : Expr) (S U : Typed) (p q : Asked) (y v : ℤ) (c : Core) (k : Go) (l : Run_on) → typed tests a j.body.scope ≡ Ok S → typed tests b j.body.scope ≡ Ok U → Answers tests p a j.body.scope → Answers tests q b j.body.scope →
      ((x : Value) → GivesAsked (types_in base) j.present p x → x ≡ int y) →
      ((x : Value) → GivesAsked (types_in base) j.present q x → x ≡ int v) →
      ((x z : Value) → GivesAsked (types_in base) j.present p x → GivesAsked (types_in base) j.present q z → Holds_index j.present T d y v)
      → At tests base subs loose (spot j) c → Follows j d T k l →
      Both j true (Eval a c (λ x c1. Eval b c1 (λ z c2. k x z c2))) (Eval S.tree (erased c) (λ x c1. Eval U.tree c1 (λ z c2. l x z c2)))
  bounds_known j d T a b S U p q y v c k l h g m n f r t at next =
      operand_also tests right base subs loose (spot j) (OutAct tests right ds base subs loose funcs w j true) a S p c (λ x c1. Eval b c1 (λ z c2. k x z c2)) (λ x c1. Eval U.tree c1 (λ z c2. l x z c2)) h m at
      (λ x c1 i o a1. operand_also tests right base subs loose (spot j) (OutAct tests right ds base subs loose funcs w j true) b U q c1 (λ z c2. k x z c2) (λ z c2. l x z c2) g n a1
      (λ z c2 i2 o2 a2. subst (λ x1. Both j true (k x1 z c2) (l x1 z (erased c2))) (sym (f x o))
      (subst (λ z1. Both j true (k (int y) z1 c2) (l (int y) z1 (erased c2))) (sym (r z o2)) (next y v c2 (t x z o o2) a2))))

  bounds_unknown : (j : StmtClaim) (d : Direction) (T : Ty) (a b : Expr) (S U : Typed) (c : Core) (k : Go) (l : Run_on) → typed tests a j.body.scope ≡ Ok S → typed tests b j.body.scope ≡ Ok U → is_integer S.ty ≡ true → is_integer U.ty ≡ true →
      ((first last : ℤ) → Holds_index j.present T d first last) → At tests base subs loose (spot j) c → Follows j d T k l →
      Both j true (Eval a c (λ x c1. Eval b c1 (λ z c2. k x z c2))) (Eval S.tree (erased c) (λ x c1. Eval U.tree c1 (λ z c2. l x z c2)))
  bounds_unknown j d T a b S U c k l h g m n t at next =
      operand tests right base subs loose (spot j) (OutAct tests right ds base subs loose funcs w j true) a S c (λ x c1. Eval b c1 (λ z c2. k x z c2)) (λ x c1. Eval U.tree c1 (λ z c2. l x z c2)) h at
      (λ x c1 i a1. operand tests right base subs loose (spot j) (OutAct tests right ds base subs loose funcs w j true) b U c1 (λ z c2. k x z c2) (λ z c2. l x z c2) g a1
      (λ z c2 i2 a2.
      let y = is_int (types_in base) j.present tests right S.ty x m i in
      let v = is_int (types_in base) j.present tests right U.ty z n i2 in
      subst (λ x1. Both j true (k x1 z c2) (l x1 z (erased c2))) (sym y.1) (subst (λ z1. Both j true (k (int y.0) z1 c2) (l (int y.0) z1 (erased c2))) (sym v.1) (next y.0 v.0 c2 (t y.0 v.0) a2))))

  abbrev Bounds : StmtClaim → Direction → Ty → Expr → Expr → Typed → Typed → Core → Go → Run_on → Type 0
  Bounds j d T a b S U c k l = Both j true (Eval a c (λ x c1. Eval b c1 (λ z c2. k x z c2))) (Eval S.tree (erased c) (λ x c1. Eval U.tree c1 (λ z c2. l x z c2)))

  abbrev if_of : Bool → Expr → Expr → Scope → Result WrittenPart Fault
  if_of x a b G = cond x (range_of_widths (found tests a) (found tests b) G) (range_of_numbers (found tests a) (found tests b) G)

  abbrev by_direction : Direction → Expr → Expr → Scope → Result WrittenPart Fault
  by_direction Up a b G = range_rule (found tests a) (found tests b) G
  by_direction Down a b G = range_rule (found tests b) (found tests a) G

  up_bounds : (x : Bool) (j : StmtClaim) (r : WrittenPart) (a b : Expr) (S U : Typed) (c : Core) (k : Go) (l : Run_on) → (if_of x a b j.body.scope) ≡ Ok r → typed tests a j.body.scope ≡ Ok S → typed tests b j.body.scope ≡ Ok U → At tests base subs loose (spot j) c → Follows j Up (integer_of (r.part ∷ [])) k l → Bounds j Up (integer_of (r.part ∷ [])) a b S U c k l
  up_bounds true j r a b S U c k l e h g at =
      let u = bind_ok (width tests a j.body.scope) _ r e in
      let v = bind_ok (width tests b j.body.scope) _ r u.then in
      subst (λ (z : WrittenPart). Follows j Up (integer_of (z.part ∷ [])) k l → Bounds j Up (integer_of (z.part ∷ [])) a b S U c k l) (ok_ok _ r v.then)
      (bounds_known j Up (integer_of (cons.part (cons.shown u.value.poly) (cons.shown v.value.poly) ∷ [])) a b S U (of_width u.value) (of_width v.value) (width_at u.value.poly j.present) (width_at v.value.poly j.present) c k l h g u.first v.first (λ x o. o.0) (λ x o. o.0)
      (λ x z o o2 i p. in_range_of j.present (cons.shown u.value.poly) (cons.shown v.value.poly) _ _ i (width_ends j.present u.value x o).0
      (width_ends j.present v.value z o2).1 p.0 p.1) at)
  up_bounds false j r a b S U c k l e h g at =
      let u = bind_ok ((found tests a).number j.body.scope) _ r e in
      let v = bind_ok ((found tests b).number j.body.scope) _ r u.then in
      subst (λ (z : WrittenPart). Follows j Up (integer_of (z.part ∷ [])) k l → Bounds j Up (integer_of (z.part ∷ [])) a b S U c k l) (ok_ok _ r v.then)
      (bounds_known j Up (integer_of (cons.part (Int u.value.number) (Int v.value.number) ∷ [])) a b S U (of_number u.value) (of_number v.value) u.value.number v.value.number c k l h g u.first v.first (λ x o. o) (λ x o. o)
      (λ x z o o2 i p. in_range_of j.present (Int u.value.number) (Int v.value.number) _ _ i (whole_ceiling u.value.number)
      (whole_floor v.value.number) p.0 p.1) at)

  down_bounds : (x : Bool) (j : StmtClaim) (r : WrittenPart) (a b : Expr) (S U : Typed) (c : Core) (k : Go) (l : Run_on) → (if_of x b a j.body.scope) ≡ Ok r → typed tests a j.body.scope ≡ Ok S → typed tests b j.body.scope ≡ Ok U → At tests base subs loose (spot j) c → Follows j Down (integer_of (r.part ∷ [])) k l → Bounds j Down (integer_of (r.part ∷ [])) a b S U c k l
  down_bounds true j r a b S U c k l e h g at =
      let v = bind_ok (width tests b j.body.scope) _ r e in
      let u = bind_ok (width tests a j.body.scope) _ r v.then in
      subst (λ (z : WrittenPart). Follows j Down (integer_of (z.part ∷ [])) k l → Bounds j Down (integer_of (z.part ∷ [])) a b S U c k l) (ok_ok _ r u.then)
      (bounds_known j Down (integer_of (cons.part (cons.shown v.value.poly) (cons.shown u.value.poly) ∷ [])) a b S U (of_width u.value) (of_width v.value) (width_at u.value.poly j.present) (width_at v.value.poly j.present) c k l h g u.first v.first (λ x o. o.0) (λ x o. o.0)
      (λ x z o o2 i p. in_range_of j.present (cons.shown v.value.poly) (cons.shown u.value.poly) _ _ i (width_ends j.present v.value z o2).0
      (width_ends j.present u.value x o).1 p.0 p.1) at)
  down_bounds false j r a b S U c k l e h g at =
      let v = bind_ok ((found tests b).number j.body.scope) _ r e in
      let u = bind_ok ((found tests a).number j.body.scope) _ r v.then in
      subst (λ (z : WrittenPart). Follows j Down (integer_of (z.part ∷ [])) k l → Bounds j Down (integer_of (z.part ∷ [])) a b S U c k l) (ok_ok _ r u.then)
      (bounds_known j Down (integer_of (cons.part (Int v.value.number) (Int u.value.number) ∷ [])) a b S U (of_number u.value) (of_number v.value) u.value.number v.value.number c k l h g u.first v.first (λ x o. o) (λ x o. o)
      (λ x z o o2 i p. in_range_of j.present (Int v.value.number) (Int u.value.number) _ _ i (whole_ceiling v.value.number)
      (whole_floor u.value.number) p.0 p.1) at)

  bounds_by : (j : StmtClaim) (d : Direction) (a b : Expr) (S U : Typed) (c : Core) (k : Go) (l : Run_on) → typed tests a j.body.scope ≡ Ok S → typed tests b j.body.scope ≡ Ok U → is_integer S.ty ≡ true → is_integer U.ty ≡ true → At tests base subs loose (spot j) c →
      (r : Result WrittenPart Fault) → by_direction d a b j.body.scope ≡ r → Follows j d (of_range r) k l → Bounds j d (of_range r) a b S U c k l
  bounds_by j d a b S U c k l h g m n at (Err x) e next = bounds_unknown j d (integer_of []) a b S U c k l h g m n (λ y v i p. refl) at next
  bounds_by j Up a b S U c k l h g m n at (Ok r) e next = up_bounds ((found tests a).has_atom j.body.scope || (found tests b).has_atom j.body.scope) j r a b S U c k l e h g at next
  bounds_by j Down a b S U c k l h g m n at (Ok r) e next = down_bounds ((found tests b).has_atom j.body.scope || (found tests a).has_atom j.body.scope) j r a b S U c k l e h g at next

  -- ---- all together

  type_is : (d : Direction) (a b : Expr) (G : Scope) → of_range (by_direction d a b G) ≡ index_type tests d a b G
  type_is Up a b G = refl
  type_is Down a b G = refl

  range_formed : (a b : Expr) (G : Scope) (r : Result WrittenPart Fault) → CountsHeld G.names →
      range_rule (found tests a) (found tests b) G ≡ r → WellFormed (types_in base) (of_range r)
  range_formed a b G (Ok p) h e =
      integer_formed tests right (types_in base) (well_declared base w) (p.part ∷ [])
      (range_by tests ((found tests a).has_atom G || (found tests b).has_atom G) a b G p h e, tt)
  range_formed a b G (Err f) h e = integer_formed tests right (types_in base) (well_declared base w) [] tt

  index_formed : (d : Direction) (a b : Expr) (G : Scope) → CountsHeld G.names → WellFormed (types_in base) (index_type tests d a b G)
  index_formed Up a b G h = range_formed a b G (range_rule (found tests a) (found tests b) G) h refl
  index_formed Down a b G h = range_formed b a G (range_rule (found tests b) (found tests a) G) h refl

  pub for_acted : (j : StmtClaim) (span : Span) (i : Ident) (a : Expr) (d : Direction) (b : Expr) (limit : Option Expr) (ss : List Stmt) (c : Core) → for_rule tests span i a d b limit (map (found_stmt tests) ss) j.body ≡ Ok j.done → HeldAt j c → Acted tests right ds base subs loose funcs w j true (st.For span i a d b limit ss) c
  for_acted j span i a d b limit ss c h held =
      let o = bind_ok (operand_of tests a j.body.scope) _ j.done h in
      let q = bind_ok (operand_of tests b j.body.scope) _ j.done o.then in
      let m = bind_ok (limit_typed tests limit j.body.scope) _ j.done q.then in
      let r = then_ok (index_rule i o.value q.value j.body) _ j.done m.then in
      let l = bind_ok (block (map (found_stmt tests) ss) (index_body i (index_type tests d a b j.body.scope) j.body)) _ j.done r.then in
      let f = then_ok (limit_fits m.value) _ j.done l.then in
      let r1 = then_ok (need (is_integer o.value.typed.ty) T05 o.value.span) _ tt r.first in
      let r2 = then_ok (need (is_integer q.value.typed.ty) T05 q.value.span) (need (is_free i.text j.body.scope.names) T01 i.span) tt r1.then in
      let S = o.value.typed in
      let U = q.value.typed in
      let e = greater (greater S.effect U.effect) l.value.effect in
      let act : Act = tree.For span S.tree d U.tree (tree_in m.value) l.value.acts in
      let G = j.body.scope in
      let T = index_type tests d a b G in
      acted tests right ds base subs loose funcs w j true (st.For span i a d b limit ss) c (done G.names e act) (ended_is G.class span (all_together Pure (S.effect ∷ U.effect ∷ [])) e G.names act j.done f.then) refl
      (λ z.
      let loop : Loop j i d a b ss l.value = record { free = need_ok (is_free i.text G.names) T01 i.span tt r2.then; listed = l.first; formed = index_formed d a b G (counts_held j.present base G.names c held.at.agrees); names = ap (λ (y : Done). y.names) z } in
      let go : Go = λ x y c2. limited span limit c2 (λ n c3. lift (whole_number span x) c3 (λ first. lift (whole_number span y) c3 (λ last. index_turns frames (with_index i) span d last ss n first c3))) in
      let run_on : Run_on = λ x y c2. limited span (tree_in m.value) c2 (λ n c3. lift (whole_number span x) c3 (λ first. lift (whole_number span y) c3 (λ last. index_turns in_bare indexed span d last (acts_of l.value.acts) n first c3))) in
      let next : Follows j d T go run_on = λ first last c2 t at.
      limit_same tests right ds base subs loose funcs w j span limit m.value c2 (λ n c3. index_turns frames (with_index i) span d last ss n first c3) (λ n c3. index_turns in_bare indexed span d last (acts_of l.value.acts) n first c3) m.first f.first
      (moved tests right ds base subs loose funcs w j c c2 held at) (λ n c3 k. index_turns_same n j span i d a b ss l.value first last c3 loop t k) in
      bounds_by j d a b S U c go run_on (operand_typed tests a G o.value o.first) (operand_typed tests b G q.value q.first) (need_ok (is_integer S.ty) T05 o.value.span tt r1.first) (need_ok (is_integer U.ty) T05 q.value.span tt r2.first) held.at
      (by_direction d a b G) refl (subst (λ V. Follows j d V go run_on) (sym (type_is d a b G)) next))
