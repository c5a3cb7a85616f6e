-- The numbers that stand with the names in the map are those of their places.
use Rattle.std.proofs.Common.{◌≡◌, ℕ, zero, suc, ◌+◌, ◌-◌, ◌*◌, ◌≤◌, ◌<◌, Bool, true, false, List, [], ◌∷◌, ◌++◌, length, take, cond, Option, Some, None, option_map, Bor, refl, sym, ap, subst, ◌∙◌, slice_get, arith}
use Rattle.std.specs.Prelude.{not}
use Rattle.std.specs.Str.{bytes_eq}
use Rattle.std.specs.List.{AllByRecursion, IsDistinct}
use Rattle.std.specs.Map.{lookup, set_value, keys_of}
use Rattle.std.specs.Cmp.Lexicographic.{bytes_decides, nat_list_eq_equiv}
use Rattle.std.proofs.lemmas.Map.{keys-set_value}
use Rattle.std.proofs.lemmas.Map.Keys.{IsDistinct-head, IsDistinct-tail}
use Rattle.indexmap.specs.IndexMap.{IndexMap, insert_entry}
use Rattle.asl_rules.specs.declared.slot.Slot.TheVariants as slot
use Rattle.asl_rules.specs.declarations.Scopes as scopes
use Rattle.asl_rules.specs.declarations.Scopes.{Entry, standing_of, is_free, is_local, next_atom}
use Rattle.asl_types.specs.declared.scope.Form.{Form}
use Rattle.asl_types.specs.declared.scope.Form.TheVariants.{Local, Global, Subprogram, TypeName, Label}
use Rattle.asl_types.specs.declared.scope.Standing.{Standing}
use Rattle.asl_types.specs.declared.scope.Standing.TheVariants as standing
use Rattle.asl_types.specs.declared.scope.Declared.{Declared}
use Rattle.asl_types.specs.private.Standings.{form_view, standing_view, storage_sort, slot_by, HasSlot, entries_of, more_locals, more_globals, Numbered, same_name, IsKept}
use Rattle.asl_rules.specs.declarations.Layouts.{place_of, number_before, slot_among, slot_of, local_name, global_name, local_names, global_names, layout_of}
use Rattle.asl_types.proofs.ScopeLemmas.{map-new, sort-found}

abbrev Held : Type 0
Held = List (Bor (List ℕ) × Declared)

-- ---- places

-- the place is so many behind the first
At : ℕ → Option ℕ → ℕ → Type 0
At l p n = (i : ℕ) × (p ≡ Some i) × (l + i ≡ n)

-- what was declared so has these places among the names behind so many of local and of global storage
Placed : Form → ℕ → ℕ → ℕ → ℕ → Option ℕ → Option ℕ → Type 0
Placed (Local T m c) dl dg l g p q = At l p dl
Placed (Global T m x) dl dg l g p q = (p ≡ None) × At g q dg
Placed Subprogram dl dg l g p q = Unit {0}
Placed (TypeName T) dl dg l g p q = Unit {0}
Placed (Label T x) dl dg l g p q = Unit {0}

FoundAt : ℕ → ℕ → Option Declared → Option ℕ → Option ℕ → Type 0
FoundAt l g None p q = Unit {0}
FoundAt l g (Some d) p q = Placed d.form d.before.locals d.before.globals l g p q

at_later : (l : ℕ) (p : Option ℕ) (n : ℕ) → At (suc l) p n → At l (option_map (λ i. suc i) p) n
unfolding At
at_later l p n h = let e : suc l + h.0 ≡ n = h.2 in (suc h.0, ap (option_map (λ i. suc i)) h.1, omega arith)

local_later : (f : Form) (dl dg l g : ℕ) (p q : Option ℕ) → Placed f dl dg (suc l) g p q → Placed f dl dg l g (option_map (λ i. suc i) p) q
unfolding Placed
local_later (Local T m c) dl dg l g p q h = at_later l p dl h
local_later (Global T m x) dl dg l g p q h = (ap (option_map (λ i. suc i)) h.0, h.1)
local_later Subprogram dl dg l g p q h = tt
local_later (TypeName T) dl dg l g p q h = tt
local_later (Label T x) dl dg l g p q h = tt

global_later : (f : Form) (dl dg l g : ℕ) (p q : Option ℕ) → Placed f dl dg l (suc g) p q → Placed f dl dg l g p (option_map (λ i. suc i) q)
unfolding Placed
global_later (Local T m c) dl dg l g p q h = h
global_later (Global T m x) dl dg l g p q h = (h.0, at_later g q dg h.1)
global_later Subprogram dl dg l g p q h = tt
global_later (TypeName T) dl dg l g p q h = tt
global_later (Label T x) dl dg l g p q h = tt

found_local : (l g : ℕ) (o : Option Declared) (p q : Option ℕ) → FoundAt (suc l) g o p q → FoundAt l g o (option_map (λ i. suc i) p) q
unfolding FoundAt
found_local l g None p q h = tt
found_local l g (Some d) p q h = local_later d.form d.before.locals d.before.globals l g p q h

found_global : (l g : ℕ) (o : Option Declared) (p q : Option ℕ) → FoundAt l (suc g) o p q → FoundAt l g o p (option_map (λ i. suc i) q)
unfolding FoundAt
found_global l g None p q h = tt
found_global l g (Some d) p q h = global_later d.form d.before.locals d.before.globals l g p q h

-- another name before
later : (f : Form) (k name : List ℕ) (ps qs : List (List ℕ)) (l g : ℕ) (o : Option Declared) → bytes_eq k name ≡ false →
    FoundAt (more_locals f l) (more_globals f g) o (place_of name ps) (place_of name qs) → FoundAt l g o (place_of name (local_name k (form_view f) ps)) (place_of name (global_name k (form_view f) qs))
later (Local T m c) k name ps qs l g o e h =
    subst (λ (b : Bool). FoundAt l g o (cond b (Some 0) (option_map (λ i. suc i) (place_of name ps))) (place_of name qs)) (sym e) (found_local l g o (place_of name ps) (place_of name qs) h)
later (Global T m x) k name ps qs l g o e h =
    subst (λ (b : Bool). FoundAt l g o (place_of name ps) (cond b (Some 0) (option_map (λ i. suc i) (place_of name qs)))) (sym e) (found_global l g o (place_of name ps) (place_of name qs) h)
later Subprogram k name ps qs l g o e h = h
later (TypeName T) k name ps qs l g o e h = h
later (Label T x) k name ps qs l g o e h = h

-- the name itself
here : (f : Form) (dl dg l g : ℕ) (k name : List ℕ) (ps qs : List (List ℕ)) → dl ≡ l → dg ≡ g → bytes_eq k name ≡ true → place_of name ps ≡ None →
    Placed f dl dg l g (place_of name (local_name k (form_view f) ps)) (place_of name (global_name k (form_view f) qs))
unfolding Placed At
here (Local T m c) dl dg l g k name ps qs a b e none = (0, ap (λ t. cond t (Some 0) (option_map (λ i. suc i) (place_of name ps))) e, omega arith)
here (Global T m x) dl dg l g k name ps qs a b e none = (none, (0, ap (λ t. cond t (Some 0) (option_map (λ i. suc i) (place_of name qs))) e, omega arith))
here Subprogram dl dg l g k name ps qs a b e none = tt
here (TypeName T) dl dg l g k name ps qs a b e none = tt
here (Label T x) dl dg l g k name ps qs a b e none = tt

absent_one : (f : Form) (k name : List ℕ) (ps : List (List ℕ)) → bytes_eq k name ≡ false → place_of name ps ≡ None → place_of name (local_name k (form_view f) ps) ≡ None
absent_one (Local T m c) k name ps e h = ap (λ t. cond t (Some 0) (option_map (λ i. suc i) (place_of name ps))) e ∙ ap (option_map (λ i. suc i)) h
absent_one (Global T m x) k name ps e h = h
absent_one Subprogram k name ps e h = h
absent_one (TypeName T) k name ps e h = h
absent_one (Label T x) k name ps e h = h

-- a name that isn't among these has no place of local storage
absent : (x : Bor (List ℕ)) (es : Held) → AllByRecursion (λ y. same_name x y ≡ false) (keys_of es) → place_of x.now (local_names (entries_of es)) ≡ None
absent x [] h = refl
absent x (e ∷ es) h = absent_one e.1.form e.0.now x.now (local_names (entries_of es)) (nat_list_eq_equiv.symm e.0.now x.now ∙ h.0) (absent x es h.1)

found-at : (es : Held) (name : List ℕ) (l g : ℕ) → Numbered l g es → IsDistinct same_name (keys_of es) →
    FoundAt l g (lookup (λ k. bytes_eq name k.now) es) (place_of name (local_names (entries_of es))) (place_of name (global_names (entries_of es)))
unfolding FoundAt
found-at [] name l g n d = tt
found-at (e ∷ es) name l g n d = by (bytes_eq name e.0.now) refl (found-at es name (more_locals e.1.form l) (more_globals e.1.form g) n.2 (IsDistinct-tail same_name e.0 (keys_of es) d))
  where
    by : (t : Bool) → bytes_eq name e.0.now ≡ t →
        FoundAt (more_locals e.1.form l) (more_globals e.1.form g) (lookup (λ k. bytes_eq name k.now) es) (place_of name (local_names (entries_of es))) (place_of name (global_names (entries_of es))) →
        FoundAt l g (cond t (Some e.1) (lookup (λ k. bytes_eq name k.now) es)) (place_of name (local_name e.0.now (form_view e.1.form) (local_names (entries_of es)))) (place_of name (global_name e.0.now (form_view e.1.form) (global_names (entries_of es))))
    by true h rest =
        here e.1.form e.1.before.locals e.1.before.globals l g e.0.now name (local_names (entries_of es)) (global_names (entries_of es)) n.0 n.1 (nat_list_eq_equiv.symm e.0.now name ∙ h)
        (ap (λ k. place_of k (local_names (entries_of es))) ((bytes_decides name e.0.now).0 h) ∙ absent e.0 es (IsDistinct-head same_name e.0 (keys_of es) d))
    by false h rest =
        later e.1.form e.0.now name (local_names (entries_of es)) (global_names (entries_of es)) l g (lookup (λ k. bytes_eq name k.now) es) (nat_list_eq_equiv.symm e.0.now name ∙ h) rest

number_of : (b : Bool) (o : Option ℕ) (k i : ℕ) → ((j : ℕ) → o ≡ Some j → k ≡ j) → cond b (Some 0) (option_map (λ n. suc n) o) ≡ Some i → cond b 0 (suc k) ≡ i
number_of true o k i h e = cc e
number_of false None k i h e = cc e
number_of false (Some j) k i h e = ap (λ n. suc n) (h j refl) ∙ some_number (suc j) i e
  where
    some_number : (m n : ℕ) → (let o : Option ℕ = Some m in o) ≡ Some n → m ≡ n
    some_number m n e = cc e

number_is : (name : List ℕ) (ns : List (List ℕ)) (i : ℕ) → place_of name ns ≡ Some i → number_before name ns ≡ i
number_is name [] i h = cc h
number_is name (n ∷ ns) i h = number_of (bytes_eq n name) (place_of name ns) (number_before name ns) i (λ j e. number_is name ns j e) h

placed_slot : (f : Form) (dl dg : ℕ) (p : Option ℕ) (name : List ℕ) (qs : List (List ℕ)) (s : Standing) → Placed f dl dg 0 0 p (place_of name qs) → standing_view s ≡ form_view f → HasSlot s (slot_by f dl dg) → HasSlot s (slot_among p name qs)
unfolding Placed At
placed_slot (Local T m c) dl dg p name qs (standing.Stored s) h v is =
    let e : 0 + h.0 ≡ dl = h.2 in let k : dl ≡ h.0 = omega arith in
    is ∙ ap (λ i. slot.Local i) k ∙ sym (ap (λ o. slot_among o name qs) h.1)
placed_slot (Global T m x) dl dg p name qs (standing.Stored s) h v is =
    let e : 0 + h.1.0 ≡ dg = h.1.2 in let k : dg ≡ h.1.0 = omega arith in
    is ∙ ap (λ i. slot.Global i) (k ∙ sym (number_is name qs h.1.0 h.1.1)) ∙ sym (ap (λ o. slot_among o name qs) h.0)
placed_slot Subprogram dl dg p name qs (standing.Stored s) h v is = cc v
placed_slot (TypeName T) dl dg p name qs (standing.Stored s) h v is = cc v
placed_slot (Label T x) dl dg p name qs (standing.Stored s) h v is = cc v
placed_slot f dl dg p name qs standing.Subprogram h v is = tt
placed_slot f dl dg p name qs (standing.TypeName T) h v is = tt
placed_slot f dl dg p name qs (standing.Label T x) h v is = tt

-- what is found for a name is held in the slot of the name
pub slot-found : (es : Held) (name : List ℕ) (d : Declared) (s : Standing) → IsKept es → lookup (λ k. bytes_eq name k.now) es ≡ Some d →
    standing_view s ≡ form_view d.form → HasSlot s (slot_by d.form d.before.locals d.before.globals) → HasSlot s (slot_of name (layout_of (entries_of es)))
unfolding FoundAt
slot-found es name d s k h v is =
    placed_slot d.form d.before.locals d.before.globals (place_of name (local_names (entries_of es))) name (global_names (entries_of es)) s
    (subst (λ (o : Option Declared). FoundAt 0 0 o (place_of name (local_names (entries_of es))) (place_of name (global_names (entries_of es)))) h (found-at es name 0 0 k.numbered k.distinct)) v is

-- ---- the numbers behind all names

locals_one : (f : Form) (l : ℕ) (k : List ℕ) (ps : List (List ℕ)) → l + length (local_name k (form_view f) ps) ≡ more_locals f l + length ps
locals_one (Local T m c) l k ps = omega arith
locals_one (Global T m x) l k ps = refl
locals_one Subprogram l k ps = refl
locals_one (TypeName T) l k ps = refl
locals_one (Label T x) l k ps = refl

globals_one : (f : Form) (g : ℕ) (k : List ℕ) (ps : List (List ℕ)) → g + length (global_name k (form_view f) ps) ≡ more_globals f g + length ps
globals_one (Local T m c) g k ps = refl
globals_one (Global T m x) g k ps = omega arith
globals_one Subprogram g k ps = refl
globals_one (TypeName T) g k ps = refl
globals_one (Label T x) g k ps = refl

-- the numbers at the last name, counted with it, are those of all
LastOf : ℕ → ℕ → Held → Declared → Type 0
LastOf l g es d = (l + length (local_names (entries_of es)) ≡ more_locals d.form d.before.locals) × (g + length (global_names (entries_of es)) ≡ more_globals d.form d.before.globals)

last_here : (l g : ℕ) (x e : Bor (List ℕ) × Declared) → x.1.before.locals ≡ l → x.1.before.globals ≡ g → x ≡ e → LastOf l g (x ∷ []) e.1
unfolding LastOf
last_here l g x e a b h =
    subst (λ (y : Bor (List ℕ) × Declared). (l + length (local_names (entries_of (x ∷ []))) ≡ more_locals y.1.form y.1.before.locals) × (g + length (global_names (entries_of (x ∷ []))) ≡ more_globals y.1.form y.1.before.globals)) h (
      locals_one x.1.form l x.0.now [] ∙ plain (more_locals x.1.form l) ∙ ap (more_locals x.1.form) (sym a),
      globals_one x.1.form g x.0.now [] ∙ plain (more_globals x.1.form g) ∙ ap (more_globals x.1.form) (sym b),
    )
  where
    plain : (n : ℕ) → n + 0 ≡ n
    plain n = omega arith

last_later : (l g : ℕ) (x : Bor (List ℕ) × Declared) (es : Held) (d : Declared) → LastOf (more_locals x.1.form l) (more_globals x.1.form g) es d → LastOf l g (x ∷ es) d
unfolding LastOf
last_later l g x es d h = (locals_one x.1.form l x.0.now (local_names (entries_of es)) ∙ h.0, globals_one x.1.form g x.0.now (global_names (entries_of es)) ∙ h.1)

some_same : {A : Type 0} (x y : A) → (let o : Option A = Some x in o) ≡ Some y → x ≡ y
some_same x y h = cc h

last_of : (l g i : ℕ) (es : Held) (e : Bor (List ℕ) × Declared) → Numbered l g es → suc i ≡ length es → slice_get es i ≡ Some e → LastOf l g es e.1
last_of l g i [] e n a h = absurd (omega arith)
last_of l g zero (x ∷ []) e n a h = last_here l g x e n.0 n.1 (some_same x e h)
last_of l g (suc i) (x ∷ []) e n a h = absurd (omega arith)
last_of l g zero (x ∷ (y ∷ es)) e n a h = absurd (omega arith)
last_of l g (suc i) (x ∷ (y ∷ es)) e n a h =
    let b : suc i ≡ length (y ∷ es) = omega arith in
    last_later l g x (y ∷ es) e.1 (last_of (more_locals x.1.form l) (more_globals x.1.form g) i (y ∷ es) e n.2 b h)

pub numbers-last : (es : Held) (names : List Entry) (e : Bor (List ℕ) × Declared) (f : Form) → IsKept es → entries_of es ≡ names → slice_get es (length es - 1) ≡ Some e → e.1.form ≡ f →
    (more_locals f e.1.before.locals ≡ length (local_names names)) × (more_globals f e.1.before.globals ≡ length (global_names names))
unfolding LastOf
numbers-last [] names e f k v h t = cc h
numbers-last (x ∷ es) names e f k v h t =
    let i : length (x ∷ es) - 1 ≡ length es = omega arith in
    let r : LastOf 0 0 (x ∷ es) e.1 = last_of 0 0 (length es) (x ∷ es) e k.numbered refl (ap (slice_get (x ∷ es)) (sym i) ∙ h) in
    let a : 0 + length (local_names (entries_of (x ∷ es))) ≡ more_locals e.1.form e.1.before.locals = r.0 in
    let b : 0 + length (global_names (entries_of (x ∷ es))) ≡ more_globals e.1.form e.1.before.globals = r.1 in
    let p : more_locals e.1.form e.1.before.locals ≡ length (local_names (entries_of (x ∷ es))) = omega arith in
    let q : more_globals e.1.form e.1.before.globals ≡ length (global_names (entries_of (x ∷ es))) = omega arith in (
      ap (λ (g : Form). more_locals g e.1.before.locals) (sym t) ∙ p ∙ ap (λ (ns : List Entry). length (local_names ns)) v,
      ap (λ (g : Form). more_globals g e.1.before.globals) (sym t) ∙ q ∙ ap (λ (ns : List Entry). length (global_names ns)) v,
    )

more_within : (f : Form) (l g n : ℕ) → (l ≤ n) × (g ≤ n) → (more_locals f l ≤ suc n) × (more_globals f g ≤ suc n)
more_within (Local T m c) l g n h = (omega arith, omega arith)
more_within (Global T m x) l g n h = (omega arith, omega arith)
more_within Subprogram l g n h = (omega arith, omega arith)
more_within (TypeName T) l g n h = (omega arith, omega arith)
more_within (Label T x) l g n h = (omega arith, omega arith)

within : (l g n i : ℕ) (es : Held) (e : Bor (List ℕ) × Declared) → (l ≤ n) × (g ≤ n) → Numbered l g es → slice_get es i ≡ Some e → (e.1.before.locals ≤ n + i) × (e.1.before.globals ≤ n + i)
within l g n i [] e w m h = cc h
within l g n zero (x ∷ es) e w m h =
    let a : x.1.before.locals ≡ l = m.0 in
    let b : x.1.before.globals ≡ g = m.1 in
    subst (λ (y : Bor (List ℕ) × Declared). (y.1.before.locals ≤ n + 0) × (y.1.before.globals ≤ n + 0)) (some_same x e h) (omega arith, omega arith)
within l g n (suc i) (x ∷ es) e w m h =
    let r : (e.1.before.locals ≤ suc n + i) × (e.1.before.globals ≤ suc n + i) = within (more_locals x.1.form l) (more_globals x.1.form g) (suc n) i es e (more_within x.1.form l g n w) m.2 h in
    (omega arith, omega arith)

-- fewer of each are before the last name than there are names
pub numbers-within : (es : Held) (e : Bor (List ℕ) × Declared) → IsKept es → slice_get es (length es - 1) ≡ Some e → (e.1.before.locals < length es) × (e.1.before.globals < length es)
numbers-within [] e k h = cc h
numbers-within (x ∷ es) e k h =
    let r : (e.1.before.locals ≤ 0 + (length (x ∷ es) - 1)) × (e.1.before.globals ≤ 0 + (length (x ∷ es) - 1)) = within 0 0 0 (length (x ∷ es) - 1) (x ∷ es) e (omega arith, omega arith) k.numbered h in
    (omega arith, omega arith)

-- ---- more names and fewer

numbered_more : (l g : ℕ) (es : Held) (k : Bor (List ℕ)) (d : Declared) → Numbered l g es → d.before.locals ≡ l + length (local_names (entries_of es)) → d.before.globals ≡ g + length (global_names (entries_of es)) → Numbered l g (es ++ (k, d) ∷ [])
numbered_more l g [] k d n a b = (omega arith, omega arith, tt)
numbered_more l g (e ∷ es) k d n a b = (
  n.0,
  n.1,
  numbered_more (more_locals e.1.form l) (more_globals e.1.form g) es k d n.2 (a ∙ locals_one e.1.form l e.0.now (local_names (entries_of es))) (b ∙ globals_one e.1.form g e.0.now (global_names (entries_of es))),
)

-- the map with a name that isn't visible
pub kept-new : {S : Type 0} (m : IndexMap (Bor (List ℕ)) Declared S) (k : Bor (List ℕ)) (d : Declared) (es : Held) →
    IsKept m.entries → is_free k.now (entries_of m.entries) ≡ true → d.before.locals ≡ length (local_names (entries_of m.entries)) → d.before.globals ≡ length (global_names (entries_of m.entries)) →
    es ≡ insert_entry same_name m.entries k d → IsDistinct same_name (keys_of es) → IsKept es
kept-new m k d es kept free a b h distinct = record {
  numbered = subst (Numbered 0 0) (sym (map-new m k d es free h)) (numbered_more 0 0 m.entries k d kept.numbered (omega arith) (omega arith));
  distinct = distinct;
}

numbered_take : (n l g : ℕ) (es : Held) → Numbered l g es → Numbered l g (take n es)
numbered_take zero l g es h = tt
numbered_take (suc n) l g [] h = tt
numbered_take (suc n) l g (e ∷ es) h = (h.0, h.1, numbered_take n (more_locals e.1.form l) (more_globals e.1.form g) es h.2)

-- the first names
pub kept-take : (n : ℕ) (es fs : Held) → IsKept es → fs ≡ take n es → IsDistinct same_name (keys_of fs) → IsKept fs
kept-take n es fs kept h distinct = record { numbered = subst (Numbered 0 0) (sym h) (numbered_take n 0 0 es kept.numbered); distinct = distinct }

pub kept-same : (es fs : Held) → IsKept es → fs ≡ es → IsKept fs
kept-same es fs kept h = subst IsKept (sym h) kept

pub kept-none : (fs : Held) → fs ≡ [] → IsDistinct same_name (keys_of fs) → IsKept fs
kept-none fs h distinct = record { numbered = subst (Numbered 0 0) (sym h) tt; distinct = distinct }

-- ---- names that are settled

same_locals : (f k : Form) (l : ℕ) → storage_sort (form_view f) ≡ storage_sort (form_view k) → more_locals f l ≡ more_locals k l
same_locals f k l h = counted f ∙ ap by h ∙ sym (counted k)
  where
    by : Option Bool → ℕ
    by None = l
    by (Some true) = l
    by (Some false) = suc l

    counted : (f : Form) → more_locals f l ≡ by (storage_sort (form_view f))
    counted (Local T m c) = refl
    counted (Global T m x) = refl
    counted Subprogram = refl
    counted (TypeName T) = refl
    counted (Label T x) = refl

same_globals : (f k : Form) (g : ℕ) → storage_sort (form_view f) ≡ storage_sort (form_view k) → more_globals f g ≡ more_globals k g
same_globals f k g h = counted f ∙ ap by h ∙ sym (counted k)
  where
    by : Option Bool → ℕ
    by None = g
    by (Some true) = suc g
    by (Some false) = g

    counted : (f : Form) → more_globals f g ≡ by (storage_sort (form_view f))
    counted (Local T m c) = refl
    counted (Global T m x) = refl
    counted Subprogram = refl
    counted (TypeName T) = refl
    counted (Label T x) = refl

-- a name that is declared otherwise, as something of the same sort
module _ (test : Bor (List ℕ) → Bool) (d w : Declared) (before : w.before ≡ d.before)
    (sort : storage_sort (form_view d.form) ≡ storage_sort (form_view w.form)) where
  numbered_settled : (l g : ℕ) (es : Held) → Numbered l g es → lookup test es ≡ Some d → Numbered l g (set_value test es w)
  numbered_settled l g [] n h = tt
  numbered_settled l g (e ∷ es) n h = by (test e.0) h (numbered_settled (more_locals e.1.form l) (more_globals e.1.form g) es n.2)
    where
      here : e.1 ≡ d → Numbered l g ((e.0, w) ∷ es)
      here q =
          let m = subst (λ (x : Declared). Numbered l g ((e.0, x) ∷ es)) q n in (
            ap (λ b. b.locals) before ∙ m.0,
            ap (λ b. b.globals) before ∙ m.1,
            subst (λ k. Numbered k (more_globals w.form g) es) (same_locals d.form w.form l sort)
                (subst (λ k. Numbered (more_locals d.form l) k es) (same_globals d.form w.form g sort) m.2),
          )

      by : (t : Bool) → cond t (Some e.1) (lookup test es) ≡ Some d →
          (lookup test es ≡ Some d → Numbered (more_locals e.1.form l) (more_globals e.1.form g) (set_value test es w)) →
          Numbered l g (cond t ((e.0, w) ∷ es) (e ∷ set_value test es w))
      by true q next = here (some_same e.1 d q)
      by false q next = (n.0, n.1, next q)

  kept_settled : (es fs : Held) → IsKept es → lookup test es ≡ Some d → fs ≡ set_value test es w → IsKept fs
  kept_settled es fs kept h e = record {
    numbered = subst (Numbered 0 0) (sym e) (numbered_settled 0 0 es kept.numbered h);
    distinct = subst (IsDistinct same_name) (sym (ap keys_of e ∙ keys-set_value test es w)) kept.distinct;
  }

-- the numbers stay, since each name counts as what it did
pub kept-settled : (es fs : Held) (names : List Entry) (name : List ℕ) (d w : Declared) (f : Form) → IsKept es → entries_of es ≡ names →
    lookup (λ k. bytes_eq name k.now) es ≡ Some d → option_map storage_sort (standing_of name names) ≡ Some (storage_sort (form_view f)) →
    w.form ≡ f → w.before ≡ d.before → fs ≡ set_value (λ k. bytes_eq name k.now) es w → IsKept fs
kept-settled es fs names name d w f kept v h s q b e =
    let r = some_same (storage_sort (form_view d.form)) (storage_sort (form_view f)) (sort-found es names name (Some d) _ v h s) in
    kept_settled (λ k. bytes_eq name k.now) d w b (r ∙ sym (ap (λ g. storage_sort (form_view g)) q)) es fs kept h e

-- ---- atoms

atom_one : (k : List ℕ) (s : scopes.Standing) (n : ℕ) (ps : List (List ℕ)) → n ≡ 2 * length ps → cond (is_local s) (suc (suc n)) n ≡ 2 * length (local_name k s ps)
atom_one k (scopes.Stored s) n ps h = by s.is_global
  where
    by : (b : Bool) → cond (not b) (suc (suc n)) n ≡ 2 * length (cond b ps (k ∷ ps))
    by true = h
    by false = omega arith
atom_one k scopes.Subprogram n ps h = h
atom_one k (scopes.TypeName T) n ps h = h
atom_one k (scopes.Label T x) n ps h = h

-- the next atom is twice the number of names of bodies
pub atoms : (es : List Entry) → next_atom es ≡ 2 * length (local_names es)
atoms [] = refl
atoms (e ∷ es) = atom_one e.name e.standing (next_atom es) (local_names es) (atoms es)
