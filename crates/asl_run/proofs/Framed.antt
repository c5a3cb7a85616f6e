-- Frames of callees: how they are entered, the values that they begin with, and what is run in them.
use Rattle.std.proofs.Common.{◌≡◌, ◌≢◌, ℕ, suc, ◌+◌, ◌<◌, ◌≤◌, List, [], ◌∷◌, ◌++◌, Option, Some, Result, Err, length, get_or, take, map, refl, sym, ap, ◌∙◌, subst, arith, append_assoc, length-append}
use Rattle.std.specs.Prelude.{OnOk, option_map, reverse}
use Rattle.std.proofs.lemmas.List.{length-take, map-append, take_more}
use Rattle.std.proofs.lemmas.Result.{on_ok_weaker}
use Rattle.asl_syn.specs.declared.token.Span.{Span}
use Rattle.asl_rules.specs.private.ByPlace.{seen_as}
use Rattle.asl_rules.specs.runs.Cuts.{cuts}
use Rattle.asl_rules.specs.runs.Plans.{Stuck, WrongKind, Pure, Good, Bad, lift, run}
use Rattle.asl_rules.specs.runs.Pures.{◌>>=◌}
use Rattle.asl_rules.specs.types.Types.{Ty}
use Rattle.asl_rules.specs.private.TypedMeaning.{BareCore, BareFrame, entered, formals_seen, run_with, with_next}
use Rattle.asl_rules.specs.values.Values.{Value}
use Rattle.asl_tree.specs.Funcs.{func_of}
use Rattle.asl_tree.specs.declared.act.TreeFunc.{TreeFunc}
use Rattle.asl_value.specs.declared.value.Value.{Value as Stored}
use Rattle.asl_value.specs.View.{value_of}
use Rattle.asl_branches.specs.Framed.{Framed}
use Rattle.asl_branches.specs.declared.run.Run.{Run}
use Rattle.asl_branches.specs.declared.setting.Setting.{Setting}
use Rattle.asl_branches.specs.declared.stop.Mistake.TheVariants as mistake
use Rattle.asl_branches.specs.declared.stop.Stop.{Stop as Stopped}
use Rattle.asl_branches.specs.declared.stop.Stop.TheVariants as stop
use Rattle.asl_branches.specs.Meets.{Answers, At, Ran, SameBut}
use Rattle.asl_branches.specs.View.{caller_of, core_of, cutting_of, height_of, meaning_of, meter_of, room_of}
use Rattle.asl_branches.proofs.Answered.{lift_failed}
use Rattle.asl_branches.proofs.Stacks.{pushed_first, pushed_id}
use Rattle.asl_run.specs.private.Calling.{body_in, waiting, Bound, BoundFormals, Enters, EntersWith, RanBody}

-- ---- the next places

-- how the rules see frames, with the exceptions that are being handled and the subprograms that are active
abbrev seen_core : Framed → List Stored → List ℕ → BareCore
seen_core f hs is = record {
  globals = map value_of f.globals;
  frame = map value_of f.values;
  handled = reverse (map value_of hs);
  callers = reverse (map caller_of f.callers);
  live = reverse is;
}

entered_core : (s s1 : Run) (id n : ℕ) → Enters s s1 id n → core_of s1 ≡ entered id [] (core_of s)
entered_core s s1 id n e =
    let f : Framed = record { globals = s.frames.globals; values = []; slots = n; callers = s.frames.callers ++ waiting s ∷ [] } in
    let c : BareCore = entered id [] (core_of s) in
    ap (λ (g : Framed). seen_core g s1.handled.items s1.live.items) e.frames_are
    ∙ ap (λ (hs : List Stored). seen_core f hs s1.live.items) e.nothing_handled
    ∙ ap (seen_core f []) e.live_are
    ∙ ap (λ (fs : List BareFrame). record c { callers = fs; live = reverse (s.live.items ++ id ∷ []) })
    (pushed_first caller_of s.frames.callers (waiting s))
    ∙ ap (λ (is : List ℕ). record c { live = is }) (pushed_id s.live.items id)

-- the next one took a value more
bound_more : (xs : List Value) (x : Value) (s s1 s2 : Run) → Bound xs s s1 → core_of s2 ≡ with_next (x ∷ []) (core_of s1) →
    height_of s2 ≡ 1 + height_of s1 → SameBut s1 s2 → Bound (xs ++ x ∷ []) s s2
bound_more xs x s s1 s2 b core height same = record {
  core_is = core ∙ ap (with_next (x ∷ [])) b.core_is
      ∙ ap (λ (ys : List Value). record (core_of s) { frame = ys }) (append_assoc (map value_of s.frames.values) xs (x ∷ []));
  height_is = omega (arith, height, b.height_is, length-append xs (x ∷ []));
  same = record {
    handled = same.handled ∙ b.same.handled;
    callers = same.callers ∙ b.same.callers;
    slots = same.slots ∙ b.same.slots;
    live = same.live ∙ b.same.live;
    steps = same.steps ∙ b.same.steps;
    text_open = same.text_open ∙ b.same.text_open;
  };
}

-- ---- formals

-- as many are seen as there are
seen_size : (span : Span) (Ts : List Ty) (xs ys : List Value) → formals_seen span Ts xs ≡ Good ys → length ys ≡ length Ts
seen_size span [] [] ys h =
    let none : ys ≡ [] = cc in
    ap length none
seen_size span [] (x ∷ xs) ys h = cc
seen_size span (T ∷ Ts) [] ys h = cc
seen_size span (T ∷ Ts) (x ∷ xs) ys h = behind (formals_seen span Ts xs) (λ zs e. seen_size span Ts xs zs e) h
  where
    behind : (r : Pure (List Value)) → ((zs : List Value) → r ≡ Good zs → length zs ≡ length Ts) →
        (r >>= λ zs. Good (seen_as T x ∷ zs)) ≡ Good ys → length ys ≡ suc (length Ts)
    behind (Good zs) others is =
        let more : ys ≡ seen_as T x ∷ zs = cc in
        ap length more ∙ ap suc (others zs refl)
    behind (Bad end) others is = cc

-- one more is seen behind them
seen_more : (span : Span) (Ts : List Ty) (xs ys : List Value) (T : Ty) (x : Value) → formals_seen span Ts xs ≡ Good ys →
    formals_seen span (Ts ++ T ∷ []) (xs ++ x ∷ []) ≡ Good (ys ++ seen_as T x ∷ [])
seen_more span [] [] ys T x h =
    let none : ys ≡ [] = cc in
    ap (λ zs. Good (zs ++ seen_as T x ∷ [])) (sym none)
seen_more span [] (y ∷ xs) ys T x h = cc
seen_more span (U ∷ Ts) [] ys T x h = cc
seen_more span (U ∷ Ts) (y ∷ xs) ys T x h = behind (formals_seen span Ts xs) (λ zs e. seen_more span Ts xs zs T x e) h
  where
    behind : (r : Pure (List Value)) → ((zs : List Value) → r ≡ Good zs →
        formals_seen span (Ts ++ T ∷ []) (xs ++ x ∷ []) ≡ Good (zs ++ seen_as T x ∷ [])) →
        (r >>= λ zs. Good (seen_as U y ∷ zs)) ≡ Good ys →
        (formals_seen span (Ts ++ T ∷ []) (xs ++ x ∷ []) >>= λ zs. Good (seen_as U y ∷ zs)) ≡ Good (ys ++ seen_as T x ∷ [])
    behind (Good zs) others is =
        let more : ys ≡ seen_as U y ∷ zs = cc in
        ap (λ r. r >>= λ us. Good (seen_as U y ∷ us)) (others zs refl) ∙ ap (λ us. Good (us ++ seen_as T x ∷ [])) (sym more)
    behind (Bad end) others is = cc

-- they aren't as many
uneven : (span : Span) (Ts : List Ty) (xs : List Stored) → length Ts ≢ length xs →
    formals_seen span Ts (map value_of xs) ≡ Bad (Stuck WrongKind span)
uneven span [] [] h = absurd (h refl)
uneven span [] (x ∷ xs) h = refl
uneven span (T ∷ Ts) [] h = refl
uneven span (T ∷ Ts) (x ∷ xs) h = ap (λ r. r >>= λ ys. Good (seen_as T (value_of x) ∷ ys)) (uneven span Ts xs (λ e. h (ap (λ n. suc n) e)))

-- ---- formals that are bound

front : {A : Type 0} (xs : List A) (i : ℕ) (x : A) → i < length xs → x ≡ get_or xs i x → take (i + 1) xs ≡ take i xs ++ x ∷ []
front xs i x within here = take_more xs i x within ∙ ap (λ y. take i xs ++ y ∷ []) (sym here)

map_front : (xs : List Stored) (i : ℕ) (x : Stored) → i < length xs → x ≡ get_or xs i x →
    map value_of (take (i + 1) xs) ≡ map value_of (take i xs) ++ value_of x ∷ []
map_front xs i x within here = ap (map value_of) (front xs i x within here) ∙ map-append value_of (take i xs) (x ∷ [])

pub formals_more : (Ts : List Ty) (xs : List Stored) (i : ℕ) (T : Ty) (x y : Stored) (s s1 s2 : Run) → i < length Ts → i < length xs →
    T ≡ get_or Ts i T → x ≡ get_or xs i x → value_of y ≡ seen_as T (value_of x) →
    core_of s2 ≡ with_next (value_of y ∷ []) (core_of s1) → height_of s2 ≡ 1 + height_of s1 → SameBut s1 s2 →
    BoundFormals (take i Ts) (map value_of (take i xs)) s s1 → BoundFormals (take (i + 1) Ts) (map value_of (take (i + 1) xs)) s s2
formals_more Ts xs i T x y s s1 s2 typed within is here seen core height same b = record {
  ys = b.ys ++ value_of y ∷ [];
  seen = λ span.
      ap (λ Us. formals_seen span Us (map value_of (take (i + 1) xs))) (front Ts i T typed is)
      ∙ ap (formals_seen span (take i Ts ++ T ∷ [])) (map_front xs i x within here)
      ∙ seen_more span (take i Ts) (map value_of (take i xs)) b.ys T (value_of x) (b.seen span)
      ∙ ap (λ v. Good (b.ys ++ v ∷ [])) (sym seen);
  bound = bound_more b.ys (value_of y) s s1 s2 b.bound core height same;
}

-- there is room for one that is left
pub formals_room : (Ts : List Ty) (xs : List Value) (i : ℕ) (s s1 : Run) → i < length Ts → BoundFormals (take i Ts) xs s s1 →
    length Ts ≤ room_of s → 0 < room_of s1
formals_room Ts xs i s s1 within b fits =
    let nowhere : Span = record { file = 0; start = 0; len = 0 } in
    let size : length b.ys ≡ length (take i Ts) = seen_size nowhere (take i Ts) xs b.ys (b.seen nowhere) in
    omega (arith, within, length-take i Ts, size, b.bound.same.slots, b.bound.height_is, fits)

-- ---- a frame with its parameters and its formals

enters_with : (id slots : ℕ) (f : TreeFunc) (ps xs : List Value) (s s1 s2 s3 : Run) →
    slots ≡ length ps + length f.formals + f.body.slots →
    Enters s s1 id slots → Bound ps s1 s2 → BoundFormals f.formals xs s2 s3 → EntersWith id f ps xs s s3
enters_with id slots f ps xs s s1 s2 s3 many e b c = record {
  ys = c.ys;
  seen = c.seen;
  core_is = c.bound.core_is ∙ ap (with_next c.ys) b.core_is ∙ ap (λ k. with_next c.ys (with_next ps k)) (entered_core s s1 id slots e);
  callers_are = c.bound.same.callers ∙ b.same.callers ∙ ap (λ (g : Framed). g.callers) e.frames_are;
  live_are = c.bound.same.live ∙ b.same.live ∙ e.live_are;
  room =
      let all : s3.frames.slots ≡ slots = c.bound.same.slots ∙ b.same.slots ∙ ap (λ (g : Framed). g.slots) e.frames_are in
      let none : height_of s1 ≡ 0 = ap (λ (g : Framed). length g.values) e.frames_are in
      omega (arith, many, all, none, b.height_is, c.bound.height_is, seen_size f.span f.formals xs c.ys (c.seen f.span));
}

pub enters_ok : {E : Type 0} (id slots : ℕ) (f : TreeFunc) (ps xs : List Value) (s s1 s2 s3 : Run) (r : Result (Unit {0}) E) →
    slots ≡ length ps + length f.formals + f.body.slots → Enters s s1 id slots → Bound ps s1 s2 →
    OnOk r (BoundFormals f.formals xs s2 s3) → OnOk r (EntersWith id f ps xs s s3)
enters_ok id slots f ps xs s s1 s2 s3 r many e b bound = on_ok_weaker r (enters_with id slots f ps xs s s1 s2 s3 many e b) bound

-- so many places are free in it at first
pub room_entered : (id slots n : ℕ) (s s1 : Run) → Enters s s1 id slots → n ≤ slots → n ≤ room_of s1
room_entered id slots n s s1 e fits =
    let all : s1.frames.slots ≡ slots = ap (λ (g : Framed). g.slots) e.frames_are in
    let none : height_of s1 ≡ 0 = ap (λ (g : Framed). length g.values) e.frames_are in
    omega (arith, all, none, fits)

-- and the others once its parameters are bound
pub room_bound : (xs : List Value) (n : ℕ) (s s1 : Run) → Bound xs s s1 → length xs + n ≤ room_of s → n ≤ room_of s1
room_bound xs n s s1 b fits = omega (arith, b.same.slots, b.height_is, fits)

-- ---- subprograms

same_meter : (s1 s2 : Run) (told : Option (List ℕ)) → s2.steps ≡ s1.steps → s2.text_open ≡ s1.text_open →
    meter_of s2 told ≡ meter_of s1 told
same_meter s1 s2 told steps text = λ k. record { steps = steps k; told = told; text_open = text k }

-- there are more or fewer arguments than formals
pub uneven_call : (h : Setting) (f : TreeFunc) (span : Span) (id : ℕ) (ps : List Value) (xs : List Stored) (a : At) →
    length f.formals ≢ length xs →
    Ran (option_map value_of) (Err (stop.Stuck mistake.WrongKind span)) h (run_with span id (func_of f) ps (map value_of xs)) a a
uneven_call h f span id ps xs a other =
    lift_failed (λ (zs : List Value). zs) (option_map value_of) h (stop.Stuck mistake.WrongKind span)
    (formals_seen span f.formals (map value_of xs)) (λ c ys. body_in f c (entered id (ps ++ ys) c)) a (uneven span f.formals xs other)

-- its frame was entered, and its body run in it
pub called_runs : (h : Setting) (f : TreeFunc) (span : Span) (id : ℕ) (ps xs : List Value) (r : Result (Option Stored) Stopped)
    (s1 : Run) (a a2 : At) →
    EntersWith id f ps xs a.run s1 → s1.steps ≡ a.run.steps → s1.text_open ≡ a.run.text_open → RanBody r h f (record a { run = s1 }) a2 →
    Ran (option_map value_of) r h (run_with span id (func_of f) ps xs) a a2
called_runs h f span id ps xs r s1 a a2 e steps text n =
    let fs = h.funcs.now in
    let d = h.depth in
    let c = core_of a.run in
    subst (λ o. Answers (Some 0) (option_map value_of) r
    (run (meaning_of fs d) (lift o c (λ ys. body_in f c (entered id (ps ++ ys) c))) (meter_of a.run a.told))
    (cuts (meaning_of fs d) (cutting_of fs d) (lift o c (λ ys. body_in f c (entered id (ps ++ ys) c))) (meter_of a.run a.told)) a a2)
    (sym (e.seen span))
    (subst (λ k. Answers (Some 0) (option_map value_of) r (run (meaning_of fs d) (body_in f c k) (meter_of a.run a.told))
    (cuts (meaning_of fs d) (cutting_of fs d) (body_in f c k) (meter_of a.run a.told)) a a2) e.core_is
    (subst (λ m. Answers (Some 0) (option_map value_of) r (run (meaning_of fs d) (body_in f c (core_of s1)) m)
    (cuts (meaning_of fs d) (cutting_of fs d) (body_in f c (core_of s1)) m) a a2) (same_meter a.run s1 a.told steps text)
    (n a.run id e.callers_are e.live_are)))
