-- What is executed at once.
use Rattle.std.proofs.Common.{◌≡◌, ℕ, ◌+◌, ◌-◌, ◌<◌, ◌≤◌, Bool, true, false, List, [], ◌∷◌, length, Option, Some, None}
use Rattle.std.proofs.Common.{sym, ap, ◌∙◌, subst}
use Rattle.std.specs.Prelude.{option_map}
use Rattle.asl_bits.specs.declared.TheConstants.{WIDTH_LIMIT}
use Rattle.asl_bits.specs.Lists.{with_slice}
use Rattle.asl_syn.specs.declared.token.Span.{Span}
use Rattle.asl_rules.specs.private.ByPlace.{into_slices, seen_where, updated}
use Rattle.asl_rules.specs.declared.slot.Slot.{Slot}
use Rattle.asl_rules.specs.declared.slot.Slot.TheVariants.{Local, Global}
use Rattle.asl_rules.specs.values.Operators.{plain_bits}
use Rattle.asl_rules.specs.values.Vectors.{Places, bits_at, read_bits, with_places, with_slices}
use Rattle.asl_rules.specs.runs.Plans.{Meter, Pure, Good, Ret, Done, Thrown, Outcome, handle, lift, run}
use Rattle.asl_rules.specs.runs.Pures.{◌>>=◌, known}
use Rattle.asl_rules.specs.runs.StatementForms.{done_normal, return_value, store_each}
use Rattle.asl_rules.specs.runs.Trees.{Declare, Trees, whole}
use Rattle.asl_rules.specs.runs.Trees as steps
use Rattle.asl_rules.specs.types.Shapes.{SliceShape}
use Rattle.asl_rules.specs.types.Types.{Ty, View}
use Rattle.asl_rules.specs.private.TypedMeaning.{BareCore, Runs as Plans, act_node, declared as declares, list_of}
use Rattle.asl_rules.specs.private.TypedMeaning.{put, stored, stores, value_at, with_next}
use Rattle.asl_rules.specs.values.Values.{Value, Exit, Normal, Returned, bits_with}
use Rattle.asl_tree.specs.Acts.{act_of}
use Rattle.asl_tree.specs.declared.act.Act.{Act as TypedAct}
use Rattle.asl_tree.specs.declared.act.TreeFunc.{TreeFunc}
use Rattle.asl_tree.specs.declared.tree.Tree.{Tree as TypedTree}
use Rattle.asl_tree.specs.View.{tree_of}
use Rattle.asl_value.specs.View.{value_of}
use Rattle.asl_value.specs.declared.value.Value.{Value as Stored}
use Rattle.asl_branches.specs.Framed.{Framed}
use Rattle.asl_branches.specs.declared.run.Run.{Run}
use Rattle.asl_branches.specs.declared.stop.Exit.{Exit as Ending}
use Rattle.asl_branches.specs.View.{core_of, exit_of, meter_of, program_of, meaning_of}
use Rattle.asl_run.specs.declared.bits.Cut.{Cut}
use Rattle.asl_run.specs.private.AtOnce.{CutBy, Cuts, Did, Executed, Finds, Parted, PutPart, Puts, PutsPart, Sets}
use Rattle.asl_run.specs.private.AtOnce.{assigns, meter_at, whole_at}
use Rattle.asl_run.proofs.BitsAtOnce.{adopts_nothing, one_filled, places_found}
use Rattle.asl_run.proofs.Entries.{stmt_done}
use Rattle.asl_run.proofs.Placing.{global_put, local_put}
use Rattle.asl_run.proofs.AtOnce.{listed_then}

-- ---- places

pub put_local : (b : Bool) (i : ℕ) (x : Value) (s : Run) (fs : Framed) → Sets b i x s.frames.values fs.values →
    fs ≡ record s.frames { values = fs.values } → Puts b (Some x) (Local i) s (record s { frames = fs })
put_local false i x s fs e is =
    ap (λ (g : Framed). record s { frames = g }) (is ∙ ap (λ (vs : List Stored). record s.frames { values = vs }) e)
put_local true i x s fs e is = λ holds span.
    local_put holds span i [] x (core_of s)
    ∙ ap (λ (r : Pure (List Value)). r >>= λ xs. Good (record (core_of s) { frame = xs })) (e holds span)
    ∙ ap (λ (g : Framed). Good (core_of (record s { frames = g }))) (sym is)

pub put_global : (b : Bool) (i : ℕ) (x : Value) (s : Run) (fs : Framed) → Sets b i x s.frames.globals fs.globals →
    fs ≡ record s.frames { globals = fs.globals } → Puts b (Some x) (Global i) s (record s { frames = fs })
put_global false i x s fs e is =
    ap (λ (g : Framed). record s { frames = g }) (is ∙ ap (λ (vs : List Stored). record s.frames { globals = vs }) e)
put_global true i x s fs e is = λ holds span.
    global_put holds span i [] x (core_of s)
    ∙ ap (λ (r : Pure (List Value)). r >>= λ xs. Good (record (core_of s) { globals = xs })) (e holds span)
    ∙ ap (λ (g : Framed). Good (core_of (record s { frames = g }))) (sym is)

-- ---- slices

-- bits with a part in the place of some of them were stored
pub part_put : (b : Bool) (part : List Bool) (cut : Cut) (slot : Slot) (s s1 : Run) (z : Stored) (there : Option Value) →
    there ≡ value_at slot (core_of s) → Parted z cut part there → Puts b (Some (value_of z)) slot s s1 → PutsPart b part cut slot s s1
part_put false part cut slot s s1 z there is p e = e
part_put true part cut slot s s1 z there is p e = record {
  bits = p.bits;
  view = p.view;
  was = sym is ∙ p.was;
  fills = p.fills;
  inside = p.inside;
  now_is = λ span.
      ap (λ v. put span slot v (core_of s)) (sym p.is)
      ∙ ap (λ o. known span o >>= λ x. updated WIDTH_LIMIT false [] (value_of z) x >>= λ y. put span slot y (core_of s)) (sym p.was ∙ is)
      ∙ e false span;
}

-- a store in a slice puts the part in the place of these bits
slice_updated : (holds : Bool) (span : Span) (shape : SliceShape) (given : List Value) (part : List Bool) (cut : Cut) (bits : List Bool)
    (view : View) → Cuts shape given cut → length part ≡ cut.width → cut.low + cut.width ≤ length bits →
    updated WIDTH_LIMIT holds (into_slices span (shape ∷ []) given ∷ []) (plain_bits part) (bits_with bits view) ≡
    Good (bits_with (with_slice bits cut.low part) view)
slice_updated holds span shape given part cut bits view c fills inside =
    let one : List Places = (record { low = cut.low; width = cut.width }) ∷ [] in
    let found = places_found span shape given cut bits c inside in
    let x = bits_with bits view in
    ap (λ r. r >>= λ ps. bits_at span ps x >>= λ q. updated WIDTH_LIMIT holds [] (plain_bits part) q >>= λ y.
    with_slices WIDTH_LIMIT span (shape ∷ []) given y x) found
    ∙ ap (λ y. with_slices WIDTH_LIMIT span (shape ∷ []) given y x) (adopts_nothing holds (read_bits one bits) part)
    ∙ ap (λ r. r >>= λ ps. with_places span ps (plain_bits part) x) found ∙ one_filled span cut part bits view fills inside

part_stored : (holds : Bool) (span at : Span) (shape : SliceShape) (given : List Value) (part : List Bool) (cut : Cut) (slot : Slot)
    (s s1 : Run) → Cuts shape given cut → PutPart part cut slot s s1 →
    stored WIDTH_LIMIT holds span slot (plain_bits part) (into_slices at (shape ∷ []) given ∷ []) (core_of s) ≡ Good (core_of s1)
part_stored holds span at shape given part cut slot s s1 c p =
    ap (λ o. known span o >>= λ x. updated WIDTH_LIMIT holds (into_slices at (shape ∷ []) given ∷ []) (plain_bits part) x >>= λ z.
    put span slot z (core_of s)) p.was
    ∙ ap (λ r. r >>= λ z. put span slot z (core_of s)) (slice_updated holds at shape given part cut p.bits p.view c p.fills p.inside)
    ∙ p.now_is span

-- ---- statements

module _ (fs : List TreeFunc) (d : ℕ) where
  -- what comes with the value of an expression
  after : {A : Type 0} {r : Outcome BareCore Value} {x : Value} {c : BareCore} {h : Meter} (k : Value → BareCore → Plans A) →
      r ≡ Done x c h → handle r (λ y c1 h1. run (meaning_of fs d) (k y c1) h1) Thrown ≡ run (meaning_of fs d) (k x c) h
  after k e = ap (λ (t : Outcome BareCore Value). handle t (λ y c1 h1. run (meaning_of fs d) (k y c1) h1) Thrown) e

  -- a change of the state is the last that is done
  changed : {r : Pure BareCore} (s s1 : Run) (n : ℕ) (told : Option (List ℕ)) → r ≡ Good (core_of s1) → s1.text_open ≡ s.text_open →
      run (meaning_of fs d) (lift r (core_of s) done_normal) (meter_at n told s) ≡ Done Normal (core_of s1) (meter_at n told s1)
  changed s s1 n told e same =
      ap (λ (t : Pure BareCore). run (meaning_of fs d) (lift t (core_of s) done_normal) (meter_at n told s)) e
      ∙ ap (λ (b : Bool). Done Normal (core_of s1) (record { steps = n; told = told; text_open = b })) (sym same)

  -- a value that was found is stored in a place
  pub assigned : (o : Option Value) (holds : Bool) (span : Span) (slot : Slot) (e : TypedTree) (s s1 : Run) (n n1 : ℕ) →
      Finds o fs d e s n n1 → Puts true o slot s s1 → s1.text_open ≡ s.text_open →
      Executed (Some Normal) fs d (assigns holds (whole_at span slot [] ∷ []) (tree_of e)) s n (record s1 { steps = n1 })
  assigned None holds span slot e s s1 n n1 f put same = absurd put
  assigned (Some x) holds span slot e s s1 n n1 f put same = λ told.
      after (λ y c. lift (stores WIDTH_LIMIT holds (whole_at span slot [] ∷ []) y) c (λ ss. store_each ss c)) (f told)
      ∙ changed s s1 n1 told (put holds span) same

  -- and in a slice of one
  pub assigned_part : (part : List Bool) (holds : Bool) (span at : Span) (shape : SliceShape) (es : Trees) (cut : Cut) (slot : Slot)
      (e : TypedTree) (s s1 : Run) (n n1 n2 : ℕ) → Finds (Some (plain_bits part)) fs d e s n n1 →
      CutBy cut shape fs d (list_of es) s n1 n2 → PutPart part cut slot s s1 → s1.text_open ≡ s.text_open →
      Executed (Some Normal) fs d (assigns holds (whole_at span slot (steps.into_slices at (shape ∷ []) es ∷ []) ∷ []) (tree_of e))
      s n (record s1 { steps = n2 })
  assigned_part part holds span at shape es cut slot e s s1 n n1 n2 f c p same = λ told.
      after (λ y c1. lift (stores WIDTH_LIMIT holds (whole_at span slot (steps.into_slices at (shape ∷ []) es ∷ []) ∷ []) y) c1
      (λ ss. store_each ss c1)) (f told)
      ∙ listed_then fs d s (list_of es) c.given [] n1 n2 told
      (λ zs c1. lift (stored WIDTH_LIMIT holds span slot (plain_bits part) (into_slices at (shape ∷ []) zs ∷ []) c1) c1 done_normal) c.listed
      ∙ changed s s1 n2 told (part_stored holds span at shape c.given part cut slot s s1 c.cuts p) same

  -- a name that is declared takes what was found
  pub declared : (o : Option Value) (x : Value) (span : Span) (T : Option Ty) (e : TypedTree) (s s1 : Run) (n n1 : ℕ) → Some x ≡ o →
      ((y : Value) → seen_where T y ≡ y) → Finds o fs d e s n n1 → core_of s1 ≡ with_next (x ∷ []) (core_of s) →
      s1.text_open ≡ s.text_open →
      Executed (Some Normal) fs d (act_node (program_of fs) (Declare span T whole (tree_of e))) s n (record s1 { steps = n1 })
  declared o x span T e s s1 n n1 is bare f now same = λ told.
      after (λ z c. lift (declares span T whole z c) c done_normal) (subst (λ (p : Option Value). Finds p fs d e s n n1) (sym is) f told)
      ∙ changed s s1 n1 told (ap (λ (z : Value). Good (with_next (z ∷ []) (core_of s))) (bare x) ∙ ap Good (sym now)) same

  -- what was found is returned
  pub returns_found : (o : Option Value) (x : Value) (e : TypedTree) (s : Run) (n n1 : ℕ) → Some x ≡ o → Finds o fs d e s n n1 →
      Executed (Some (Returned (Some x))) fs d (return_value (Some (tree_of e))) s n (record s { steps = n1 })
  returns_found o x e s n n1 is f = λ told.
      after (λ z c. Ret (Returned (Some z)) c) (subst (λ (p : Option Value). Finds p fs d e s n n1) (sym is) f told)

  -- a statement is executed one step and one level below
  pub entered : (o : Option Exit) (t : TypedAct) (s s1 : Run) → 0 < s.steps → 0 < d →
      Executed o fs (d - 1) (act_node (program_of fs) (act_of t)) s (s.steps - 1) s1 → Did o fs d t s s1
  entered None t s s1 has deep p = p
  entered (Some x) t s s1 has deep p = λ told.
      stmt_done fs d (act_of t) x (core_of s) (core_of s1) (meter_of s told) (meter_of s1 told) deep has (p told)

  -- where none was executed, the state is the same
  pub untouched : (o : Option Ending) (t : TypedAct) (s s1 : Run) → o ≡ None → Did (option_map exit_of o) fs d t s s1 → s1 ≡ s
  untouched o t s s1 is m = subst (λ p. Did (option_map exit_of p) fs d t s s1) is m
