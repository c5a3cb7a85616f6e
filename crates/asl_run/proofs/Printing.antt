-- Items, one by one.
use Rattle.std.proofs.Common.{◌≡◌, ℕ, suc, ◌+◌, ◌<◌, inl, inr, List, [], ◌∷◌, ◌++◌, length, get_or, drop, Option, Err, refl, sym, ap, ◌∙◌, subst, arith}
use Rattle.std.proofs.Math.Seq.{drop-cons}
use Rattle.asl_syn.specs.declared.tree.PrintKind.{PrintKind}
use Rattle.asl_rules.specs.runs.StatementForms as forms
use Rattle.asl_tree.specs.declared.act.TreeFunc.{TreeFunc}
use Rattle.asl_tree.specs.declared.act.TreeItem.{TreeItem}
use Rattle.asl_tree.specs.declared.act.TreeItem.TheVariants.{Verbatim, Shown}
use Rattle.asl_rules.specs.values.Values.{Value, Exit}
use Rattle.asl_rules.specs.runs.Told.{appended, open_after, Part}
use Rattle.asl_rules.specs.runs.Plans.{Meter, Done, Ret, Eval, Put, run, wrote, ◌>>=◌}
use Rattle.asl_rules.specs.runs.Cuts.{cuts}
use Rattle.asl_rules.specs.values.Strings.{string_text}
use Rattle.asl_rules.specs.report.Texts.{value_text}
use Rattle.asl_rules.specs.private.TypedMeaning.{BareCore, Runs, item_of}
use Rattle.asl_tree.specs.Acts.{all_items}
use Rattle.asl_tree.specs.View.{tree_of}
use Rattle.asl_tree.specs.declared.tree.Tree.{Tree}
use Rattle.asl_value.specs.View.{value_of}
use Rattle.asl_branches.specs.declared.stop.Stop.{Stop as Stopped}
use Rattle.asl_branches.specs.declared.stop.Stop.TheVariants as stop
use Rattle.asl_branches.specs.Meets.{Left, Meets, Writes}
use Rattle.asl_branches.specs.View.{exit_of, meaning_of, cutting_of}
use Rattle.asl_branches.proofs.Answered.{eval_failed}
use Rattle.asl_branches.proofs.Turns.{goes_on, meets_left, one_evaluated}

append_nil : (xs : List ℕ) → xs ++ [] ≡ xs
append_nil [] = refl
append_nil (x ∷ xs) = ap (λ l. x ∷ l) (append_nil xs)

-- all was written, which is a part
whole_part : (t : Option (List ℕ)) (bytes : List ℕ) → Part t (appended t bytes) bytes
whole_part t bytes = record { taken = bytes; rest = []; is = refl; whole = sym (append_nil bytes) }

cuts_put : (fs : List TreeFunc) (d : ℕ) (bytes : List ℕ) (q : Runs Exit) (h u : Meter) → cuts (meaning_of fs d) (cutting_of fs d) q (wrote h bytes) u → cuts (meaning_of fs d) (cutting_of fs d) (Put bytes q) h u
cuts_put fs d bytes q h u (inl e) = inr (inl (ap (λ k. k.steps) e, subst (λ k. Part h.told k.told bytes) (sym e) (whole_part h.told bytes)))
cuts_put fs d bytes q h u (inr w) = inr (inr w)

wrote_is : (h h1 : Meter) (bytes : List ℕ) → h1.steps ≡ h.steps → h1.told ≡ appended h.told bytes → h1.text_open ≡ open_after h.text_open bytes → wrote h bytes ≡ h1
wrote_is h h1 bytes s t o = sym (
    ap (λ n. record h1 { steps = n }) s ∙ ap (λ x. record h1 { steps = h.steps; told = x }) t ∙ ap (λ b. record h1 { steps = h.steps; told = appended h.told bytes; text_open = b }) o)

-- a string stands in front of the items behind it
at_string : (fs : List TreeFunc) (d : ℕ) (kind : PrintKind) (items : List TreeItem) (k : ℕ) (item : TreeItem) (text bytes : List ℕ) (c : BareCore) (h : Meter) (q0 : Runs Exit) (h0 : Meter) →
    k < length items → item ≡ get_or items k item → item ≡ Verbatim text → bytes ≡ text → Left fs d (forms.print_items item_of kind (all_items (drop k items)) c) h q0 h0 →
    Left fs d (Put (string_text bytes) (forms.print_items item_of kind (all_items (drop (k + 1) items)) c)) h q0 h0
at_string fs d kind items k item text bytes c h q0 h0 within here is same l =
    let up : suc k ≡ k + 1 = omega arith in
    let front : drop k items ≡ Verbatim bytes ∷ drop (k + 1) items = drop-cons items k item within ∙ ap (λ n. get_or items k item ∷ drop n items) up ∙ ap (λ i. i ∷ drop (k + 1) items) (sym here ∙ is ∙ ap (Verbatim) (sym same)) in
    subst (λ is. Left fs d (forms.print_items item_of kind (all_items is) c) h q0 h0) front l

-- a string was written, and the items behind it are left
pub string_written : (fs : List TreeFunc) (d : ℕ) (kind : PrintKind) (items : List TreeItem) (k : ℕ) (item : TreeItem) (text bytes : List ℕ) (c : BareCore) (h h1 : Meter) (q0 : Runs Exit) (h0 : Meter) →
    k < length items → item ≡ get_or items k item → item ≡ Verbatim text → bytes ≡ text → h1.steps ≡ h.steps → h1.told ≡ appended h.told (string_text bytes) → h1.text_open ≡ open_after h.text_open (string_text bytes) →
    Left fs d (forms.print_items item_of kind (all_items (drop k items)) c) h q0 h0 → Left fs d (forms.print_items item_of kind (all_items (drop (k + 1) items)) c) h1 q0 h0
string_written fs d kind items k item text bytes c h h1 q0 h0 within here is same s t o l =
    let q : Runs Exit = forms.print_items item_of kind (all_items (drop (k + 1) items)) c in
    let m : Left fs d (Put (string_text bytes) q) h q0 h0 = at_string fs d kind items k item text bytes c h q0 h0 within here is same l in
    let r : Left fs d q (wrote h (string_text bytes)) q0 h0 = record { same = m.same; given_up = λ u w. m.given_up u (cuts_put fs d (string_text bytes) q h u w) } in
    subst (λ k. Left fs d q k q0 h0) (wrote_is h h1 (string_text bytes) s t o) r

-- a value stands in front of the items behind it
at_shown : (fs : List TreeFunc) (d : ℕ) (kind : PrintKind) (items : List TreeItem) (k : ℕ) (item : TreeItem) (e : Tree) (c : BareCore) (h : Meter) (q0 : Runs Exit) (h0 : Meter) →
    k < length items → item ≡ get_or items k item → item ≡ Shown e → Left fs d (forms.print_items item_of kind (all_items (drop k items)) c) h q0 h0 →
    Left fs d (Eval (tree_of e) c (λ y c2. Put (value_text y) (forms.print_items item_of kind (all_items (drop (k + 1) items)) c2))) h q0 h0
at_shown fs d kind items k item e c h q0 h0 within here is l =
    let up : suc k ≡ k + 1 = omega arith in
    let front : drop k items ≡ Shown e ∷ drop (k + 1) items = drop-cons items k item within ∙ ap (λ n. get_or items k item ∷ drop n items) up ∙ ap (λ i. i ∷ drop (k + 1) items) (sym here ∙ is) in
    subst (λ is. Left fs d (forms.print_items item_of kind (all_items is) c) h q0 h0) front l

-- its value is to be written
shown_next : (fs : List TreeFunc) (d : ℕ) (kind : PrintKind) (items : List TreeItem) (k : ℕ) (item : TreeItem) (e : Tree) (x : Value) (c : BareCore) (h : Meter) (c1 : BareCore) (h1 : Meter) (q0 : Runs Exit) (h0 : Meter) →
    k < length items → item ≡ get_or items k item → item ≡ Shown e → (meaning_of fs d).expr (tree_of e) c h ≡ Done x c1 h1 → Left fs d (forms.print_items item_of kind (all_items (drop k items)) c) h q0 h0 →
    Left fs d (Put (value_text x) (forms.print_items item_of kind (all_items (drop (k + 1) items)) c1)) h1 q0 h0
shown_next fs d kind items k item e x c h c1 h1 q0 h0 within here is done l =
    let go : Value → BareCore → Runs Exit = λ y c2. Put (value_text y) (forms.print_items item_of kind (all_items (drop (k + 1) items)) c2) in
    let m : Left fs d (Eval (tree_of e) c go) h q0 h0 = at_shown fs d kind items k item e c h q0 h0 within here is l in
    let n : Left fs d (go x c1) h1 (Eval (tree_of e) c go) h = goes_on fs d (Eval (tree_of e) c (λ y c2. Ret y c2)) (Eval (tree_of e) c go) go (one_evaluated fs d (tree_of e) c go) h x c1 h1 (ap (λ r. r >>= λ y c2 h3. Done y c2 h3) done) in
    record { same = n.same ∙ m.same; given_up = λ u w. m.given_up u (n.given_up u w) }

-- a value was written, and the items behind it are left
pub shown_written : (fs : List TreeFunc) (d : ℕ) (kind : PrintKind) (items : List TreeItem) (k : ℕ) (item : TreeItem) (e : Tree) (x : Value) (c : BareCore) (h : Meter) (c1 : BareCore) (h1 h2 : Meter) (q0 : Runs Exit) (h0 : Meter) →
    k < length items → item ≡ get_or items k item → item ≡ Shown e → (meaning_of fs d).expr (tree_of e) c h ≡ Done x c1 h1 → h2.steps ≡ h1.steps → h2.told ≡ appended h1.told (value_text x) → h2.text_open ≡ open_after h1.text_open (value_text x) →
    Left fs d (forms.print_items item_of kind (all_items (drop k items)) c) h q0 h0 → Left fs d (forms.print_items item_of kind (all_items (drop (k + 1) items)) c1) h2 q0 h0
shown_written fs d kind items k item e x c h c1 h1 h2 q0 h0 within here is done s t o l =
    let q : Runs Exit = forms.print_items item_of kind (all_items (drop (k + 1) items)) c1 in
    let m : Left fs d (Put (value_text x) q) h1 q0 h0 = shown_next fs d kind items k item e x c h c1 h1 q0 h0 within here is done l in
    let r : Left fs d q (wrote h1 (value_text x)) q0 h0 = record { same = m.same; given_up = λ u w. m.given_up u (cuts_put fs d (value_text x) q h1 u w) } in
    subst (λ k. Left fs d q k q0 h0) (wrote_is h1 h2 (value_text x) s t o) r

-- ---- where it stops the run

-- the sink refused some of the bytes
put_failed : (fs : List TreeFunc) (d : ℕ) (bytes : List ℕ) (q : Runs Exit) (c : BareCore) (h h1 : Meter) (r : Stopped) (q0 : Runs Exit) (h0 : Meter) → h1.steps ≡ h.steps → Writes (Err r) bytes h.text_open h.told h1.text_open h1.told →
    Left fs d (Put bytes q) h q0 h0 → Meets exit_of (Err r) c h1 (run (meaning_of fs d) q0 h0) (cuts (meaning_of fs d) (cutting_of fs d) q0 h0)
put_failed fs d bytes q c h h1 stop.NoMemory q0 h0 s w l = absurd w
put_failed fs d bytes q c h h1 stop.SinkFault q0 h0 s w l = l.given_up h1 (inr (inl (s, w)))
put_failed fs d bytes q c h h1 (stop.Thrown x) q0 h0 s w l = absurd w
put_failed fs d bytes q c h h1 (stop.Fault code span) q0 h0 s w l = absurd w
put_failed fs d bytes q c h h1 (stop.Stuck mistake span) q0 h0 s w l = absurd w

pub string_failed : (fs : List TreeFunc) (d : ℕ) (kind : PrintKind) (items : List TreeItem) (k : ℕ) (item : TreeItem) (text bytes : List ℕ) (c : BareCore) (h h1 : Meter) (r : Stopped) (q0 : Runs Exit) (h0 : Meter) →
    k < length items → item ≡ get_or items k item → item ≡ Verbatim text → bytes ≡ text → h1.steps ≡ h.steps → Writes (Err r) (string_text bytes) h.text_open h.told h1.text_open h1.told →
    Left fs d (forms.print_items item_of kind (all_items (drop k items)) c) h q0 h0 → Meets exit_of (Err r) c h1 (run (meaning_of fs d) q0 h0) (cuts (meaning_of fs d) (cutting_of fs d) q0 h0)
string_failed fs d kind items k item text bytes c h h1 r q0 h0 within here is same s w l =
    put_failed fs d (string_text bytes) (forms.print_items item_of kind (all_items (drop (k + 1) items)) c) c h h1 r q0 h0 s w (at_string fs d kind items k item text bytes c h q0 h0 within here is same l)

pub value_failed : (fs : List TreeFunc) (d : ℕ) (kind : PrintKind) (items : List TreeItem) (k : ℕ) (item : TreeItem) (e : Tree) (x : Value) (c : BareCore) (h : Meter) (c1 : BareCore) (h1 h2 : Meter) (r : Stopped) (q0 : Runs Exit) (h0 : Meter) →
    k < length items → item ≡ get_or items k item → item ≡ Shown e → (meaning_of fs d).expr (tree_of e) c h ≡ Done x c1 h1 → h2.steps ≡ h1.steps → Writes (Err r) (value_text x) h1.text_open h1.told h2.text_open h2.told →
    Left fs d (forms.print_items item_of kind (all_items (drop k items)) c) h q0 h0 → Meets exit_of (Err r) c1 h2 (run (meaning_of fs d) q0 h0) (cuts (meaning_of fs d) (cutting_of fs d) q0 h0)
value_failed fs d kind items k item e x c h c1 h1 h2 r q0 h0 within here is done s w l =
    put_failed fs d (value_text x) (forms.print_items item_of kind (all_items (drop (k + 1) items)) c1) c1 h1 h2 r q0 h0 s w (shown_next fs d kind items k item e x c h c1 h1 q0 h0 within here is done l)

-- its expression did
pub shown_failed : (fs : List TreeFunc) (d : ℕ) (kind : PrintKind) (items : List TreeItem) (k : ℕ) (item : TreeItem) (e : Tree) (c : BareCore) (h : Meter) (r : Stopped) (c1 : BareCore) (h1 : Meter) (q0 : Runs Exit) (h0 : Meter) →
    k < length items → item ≡ get_or items k item → item ≡ Shown e → Meets value_of (Err r) c1 h1 ((meaning_of fs d).expr (tree_of e) c h) ((cutting_of fs d).expr (tree_of e) c h) →
    Left fs d (forms.print_items item_of kind (all_items (drop k items)) c) h q0 h0 → Meets exit_of (Err r) c1 h1 (run (meaning_of fs d) q0 h0) (cuts (meaning_of fs d) (cutting_of fs d) q0 h0)
shown_failed fs d kind items k item e c h r c1 h1 q0 h0 within here is m l =
    let go : Value → BareCore → Runs Exit = λ y c2. Put (value_text y) (forms.print_items item_of kind (all_items (drop (k + 1) items)) c2) in
    meets_left exit_of fs d (Eval (tree_of e) c go) q0 h0 h (at_shown fs d kind items k item e c h q0 h0 within here is l)
    (Err r) c1 h1 (eval_failed exit_of fs d (tree_of e) c go h r c1 h1 m)
