-- The signatures of one name, each behind the next older: the last that has a name, and the overload that a call chooses, over the first so many signatures.
use Rattle.std.proofs.Common.{◌≡◌, ℕ, zero, suc, ◌+◌, ◌<◌, ◌≤◌, Bool, true, false, cond, ◌&&◌, Option, Some, None, ◌⊎◌, inl, inr, List, [], ◌∷◌, ◌++◌, length, get_or, take, refl, sym, ap, subst, ◌∙◌, arith}
use Rattle.std.specs.Str.{bytes_eq}
use Rattle.std.specs.Cmp.Lexicographic.{nat_list_eq_equiv, bytes_decides}
use Rattle.std.specs.Prelude.{slice_get, Vec}
use Rattle.std.specs.Map.{lookup}
use Rattle.std.proofs.lemmas.Bool.{cases_lt}
use Rattle.std.proofs.lemmas.List.{take_more, take_all}
use Rattle.std.proofs.lemmas.Option.{slice_get_within, slice_get-get_or}
use Rattle.indexmap.specs.IndexMap.{insert_entry}
use Rattle.asl_rules.specs.types.Types.{Parts, no_part, same_kinds}
use Rattle.asl_rules.specs.declarations.Scopes.{Signature, Chosen, choose_from, choose}
use Rattle.asl_types.proofs.PlaceLemmas.{two_alike, two_apart}
use Rattle.asl_subprograms.specs.private.Chains.{last_from, last_of, or_found, taken, taken_by, IsLinked}

-- ---- one more signature at the end

pub last_more : (n : ℕ) (o : Option ℕ) (name : List ℕ) (fs : List Signature) (f : Signature) →
    last_from n o name (fs ++ f ∷ []) ≡ cond (bytes_eq f.name name) (Some (n + length fs)) (last_from n o name fs)
last_more n o name [] f = ap (λ m. cond (bytes_eq f.name name) (Some m) o) (omega arith)
last_more n o name (g ∷ fs) f =
    last_more (suc n) (cond (bytes_eq g.name name) (Some n) o) name fs f
    ∙ ap (λ m. cond (bytes_eq f.name name) (Some m) (last_from (suc n) (cond (bytes_eq g.name name) (Some n) o) name fs)) (omega arith)

last_snoc : (name : List ℕ) (fs : List Signature) (f : Signature) → last_of name (fs ++ f ∷ []) ≡ cond (bytes_eq f.name name) (Some (length fs)) (last_of name fs)
last_snoc name fs f =
    let e : 0 + length fs ≡ length fs = omega arith in
    last_more 0 None name fs f ∙ ap (λ n. cond (bytes_eq f.name name) (Some n) (last_of name fs)) e

found_by : (b : Bool) (c : Chosen) (o p : Option Chosen) → or_found (cond b (Some c) o) p ≡ cond b (Some c) (or_found o p)
found_by true c o p = refl
found_by false c o p = refl

choose_more : (n : ℕ) (name : List ℕ) (Ts : Parts) (fs : List Signature) (f : Signature) →
    choose_from n name Ts (fs ++ f ∷ []) ≡ or_found (choose_from n name Ts fs) (taken (n + length fs) name Ts f)
choose_more n name Ts [] f = ap (λ m. taken m name Ts f) (omega arith)
choose_more n name Ts (g ∷ fs) f =
    ap (cond (bytes_eq g.name name && same_kinds g.formals Ts) (Some (record { number = n; signature = g })))
    (choose_more (suc n) name Ts fs f ∙ ap (λ m. or_found (choose_from (suc n) name Ts fs) (taken m name Ts f)) (omega arith))
    ∙ sym (found_by (bytes_eq g.name name && same_kinds g.formals Ts) (record { number = n; signature = g }) (choose_from (suc n) name Ts fs) (taken (n + length (g ∷ fs)) name Ts f))

length_take : {A : Type 0} (n : ℕ) (xs : List A) → n ≤ length xs → length (take n xs) ≡ n
length_take zero xs h = refl
length_take (suc n) [] h = absurd (omega (arith, h))
length_take (suc n) (x ∷ xs) h = ap (λ m. suc m) (length_take n xs (omega (arith, h)))

last_at : (name : List ℕ) (fs : List Signature) (m : ℕ) (d : Signature) → m < length fs → last_of name (take (m + 1) fs) ≡ cond (bytes_eq (get_or fs m d).name name) (Some m) (last_of name (take m fs))
last_at name fs m d h =
    ap (last_of name) (take_more fs m d h)
    ∙ last_more 0 None name (take m fs) (get_or fs m d)
    ∙ ap (λ k. cond (bytes_eq (get_or fs m d).name name) (Some k) (last_of name (take m fs))) (omega (arith, length_take m fs (omega (arith, h))))

choose_at : (name : List ℕ) (Ts : Parts) (fs : List Signature) (m : ℕ) (d : Signature) → m < length fs →
    choose name Ts (take (m + 1) fs) ≡ or_found (choose name Ts (take m fs)) (taken m name Ts (get_or fs m d))
choose_at name Ts fs m d h =
    ap (choose name Ts) (take_more fs m d h)
    ∙ choose_more 0 name Ts (take m fs) (get_or fs m d)
    ∙ ap (λ k. or_found (choose name Ts (take m fs)) (taken k name Ts (get_or fs m d))) (omega (arith, length_take m fs (omega (arith, h))))

-- ---- what the last of a name says

-- it is one of the first m and has the name; what is chosen among the first m is chosen up to it
pub record IsLast (name : List ℕ) (Ts : Parts) (fs : List Signature) (m p : ℕ) : Type 0 where
  pub before : p < m
  pub named : (d : Signature) → bytes_eq (get_or fs p d).name name ≡ true
  pub chosen : choose name Ts (take m fs) ≡ choose name Ts (take (p + 1) fs)

or_none : (o : Option Chosen) → or_found o None ≡ o
or_none None = refl
or_none (Some c) = refl

unnamed : (m : ℕ) (name : List ℕ) (Ts : Parts) (f : Signature) → bytes_eq f.name name ≡ false → taken m name Ts f ≡ None
unnamed m name Ts f e = ap (λ b. cond (b && same_kinds f.formals Ts) (Some (record { number = m; signature = f })) None) e

some_is : (m n : ℕ) → Some m ≡ Some n → m ≡ n
some_is m n e = cc e

same_default : (gs : List Signature) (k : ℕ) (d c : Signature) → k < length gs → get_or gs k d ≡ get_or gs k c
same_default [] k d c h = absurd (omega (arith, h))
same_default (g ∷ gs) zero d c h = refl
same_default (g ∷ gs) (suc k) d c h = same_default gs k d c (omega (arith, h))

last_here : (name : List ℕ) (fs : List Signature) (m : ℕ) (d : Signature) → m < length fs → last_of name (take (suc m) fs) ≡ cond (bytes_eq (get_or fs m d).name name) (Some m) (last_of name (take m fs))
last_here name fs m d h =
    let up : suc m ≡ m + 1 = omega arith in
    ap (λ n. last_of name (take n fs)) up ∙ last_at name fs m d h

choose_here : (name : List ℕ) (Ts : Parts) (fs : List Signature) (m : ℕ) (d : Signature) → m < length fs → bytes_eq (get_or fs m d).name name ≡ false → choose name Ts (take (suc m) fs) ≡ choose name Ts (take m fs)
choose_here name Ts fs m d h apart =
    let up : suc m ≡ m + 1 = omega arith in
    ap (λ n. choose name Ts (take n fs)) up ∙ choose_at name Ts fs m d h
    ∙ ap (or_found (choose name Ts (take m fs))) (unnamed m name Ts (get_or fs m d) apart)
    ∙ or_none (choose name Ts (take m fs))

found_step : (name : List ℕ) (Ts : Parts) (fs : List Signature) (m p : ℕ) (d : Signature) (b : Bool) → m < length fs → bytes_eq (get_or fs m d).name name ≡ b → last_of name (take (suc m) fs) ≡ Some p →
    (last_of name (take m fs) ≡ Some p → IsLast name Ts fs m p) → IsLast name Ts fs (suc m) p
found_step name Ts fs m p d true h same e rest =
    let is : m ≡ p = some_is m p (sym (last_here name fs m d h ∙ ap (λ b. cond b (Some m) (last_of name (take m fs))) same) ∙ e) in
    record {
      before = omega (arith, is);
      named = λ c. subst (λ k. bytes_eq (get_or fs k c).name name ≡ true) is (ap (λ (g : Signature). bytes_eq g.name name) (same_default fs m c d h) ∙ same);
      chosen = let up : suc m ≡ p + 1 = omega (arith, is) in ap (λ n. choose name Ts (take n fs)) up;
    }
found_step name Ts fs m p d false h apart e rest =
    let r = rest (sym (last_here name fs m d h ∙ ap (λ b. cond b (Some m) (last_of name (take m fs))) apart) ∙ e) in
    record { before = omega (arith, r.before); named = r.named; chosen = choose_here name Ts fs m d h apart ∙ r.chosen }

pub found : (name : List ℕ) (Ts : Parts) (fs : List Signature) (m p : ℕ) → m ≤ length fs → last_of name (take m fs) ≡ Some p → IsLast name Ts fs m p
found name Ts fs zero p h e = cc e
found name Ts [] (suc m) p h e = absurd (omega (arith, h))
found name Ts (f ∷ fs) (suc m) p h e =
    found_step name Ts (f ∷ fs) m p f (bytes_eq (get_or (f ∷ fs) m f).name name) (omega (arith, h)) refl e (λ q. found name Ts (f ∷ fs) m p (omega (arith, h)) q)

not_found_step : (name : List ℕ) (Ts : Parts) (fs : List Signature) (m : ℕ) (d : Signature) (b : Bool) → m < length fs → bytes_eq (get_or fs m d).name name ≡ b → last_of name (take (suc m) fs) ≡ None →
    (last_of name (take m fs) ≡ None → choose name Ts (take m fs) ≡ None) → choose name Ts (take (suc m) fs) ≡ None
not_found_step name Ts fs m d true h same e rest =
    let is : Some m ≡ None = sym (last_here name fs m d h ∙ ap (λ b. cond b (Some m) (last_of name (take m fs))) same) ∙ e in
    cc is
not_found_step name Ts fs m d false h apart e rest =
    choose_here name Ts fs m d h apart ∙ rest (sym (last_here name fs m d h ∙ ap (λ b. cond b (Some m) (last_of name (take m fs))) apart) ∙ e)

pub not_found : (name : List ℕ) (Ts : Parts) (fs : List Signature) (m : ℕ) → m ≤ length fs → last_of name (take m fs) ≡ None → choose name Ts (take m fs) ≡ None
not_found name Ts fs zero h e = refl
not_found name Ts [] (suc m) h e = absurd (omega (arith, h))
not_found name Ts (f ∷ fs) (suc m) h e =
    not_found_step name Ts (f ∷ fs) m f (bytes_eq (get_or (f ∷ fs) m f).name name) (omega (arith, h)) refl e (λ q. not_found name Ts (f ∷ fs) m (omega (arith, h)) q)

-- ---- the loop over the signatures of a name, from the last

-- the next to look at is the last of the name among the first m, and what is chosen among those comes before what was found
pub record Stands (name : List ℕ) (Ts : Parts) (fs : List Signature) (at : Option ℕ) (later : Option Chosen) : Type 0 where
  pub many : ℕ
  pub within : many ≤ length fs
  pub last : at ≡ last_of name (take many fs)
  pub chosen : choose name Ts fs ≡ or_found (choose name Ts (take many fs)) later

pub first : (name : List ℕ) (Ts : Parts) (fs : List Signature) (at : Option ℕ) → at ≡ last_of name fs → Stands name Ts fs at None
first name Ts fs at h = record {
  many = length fs;
  within = omega arith;
  last = h ∙ ap (last_of name) (sym (take_all (length fs) fs (omega arith)));
  chosen = ap (choose name Ts) (sym (take_all (length fs) fs (omega arith))) ∙ sym (or_none (choose name Ts (take (length fs) fs)));
}

pub at_end : (name : List ℕ) (Ts : Parts) (fs : List Signature) (at : Option ℕ) (later : Option Chosen) → Stands name Ts fs at later → at ≡ None → later ≡ choose name Ts fs
at_end name Ts fs at later s none =
    sym (s.chosen ∙ ap (λ o. or_found o later) (not_found name Ts fs s.many s.within (sym s.last ∙ none)))

pub inside : (name : List ℕ) (Ts : Parts) (fs : List Signature) (at : Option ℕ) (later : Option Chosen) (p : ℕ) → Stands name Ts fs at later → at ≡ Some p → p < length fs
inside name Ts fs at later p s some =
    let f = found name Ts fs s.many p s.within (sym s.last ∙ some) in
    omega (arith, f.before, s.within)

or_or : (a b c : Option Chosen) → or_found (or_found a b) c ≡ or_found a (or_found b c)
or_or None b c = refl
or_or (Some x) b c = refl

bytes_same : (xs ys : List ℕ) → bytes_eq xs ys ≡ true → xs ≡ ys
bytes_same xs ys e = (bytes_decides xs ys).0 e

as_taken : (b : Bool) (p : ℕ) (f : Signature) → cond b (Some (record { number = p; signature = f })) None ≡ taken_by b p f
as_taken true p f = refl
as_taken false p f = refl

some_same : (a b : Option ℕ) → Some a ≡ Some b → a ≡ b
some_same a b e = cc e

pub back : (name : List ℕ) (Ts : Parts) (fs : List Signature) (older : List (Option ℕ)) (at next : Option ℕ) (later more : Option Chosen) (p : ℕ) (f : Signature) → Stands name Ts fs at later → at ≡ Some p → f ≡ get_or fs p f →
    ((i : ℕ) (g : Signature) → slice_get fs i ≡ Some g → slice_get older i ≡ Some (last_of g.name (take i fs))) → slice_get older p ≡ Some next →
    more ≡ or_found (taken_by (same_kinds f.formals Ts) p f) later → Stands name Ts fs next more
back name Ts fs older at next later more p f s some here links there is =
    let q = found name Ts fs s.many p s.within (sym s.last ∙ some) in
    let in_list : p < length fs = omega (arith, q.before, s.within) in
    let named : bytes_eq f.name name ≡ true = ap (λ (g : Signature). bytes_eq g.name name) here ∙ q.named f in
    let same : f.name ≡ name = bytes_same f.name name named in
    let link = links p f (slice_get-get_or fs p f in_list ∙ ap Some (sym here)) in
    record {
      many = p;
      within = omega (arith, in_list);
      last = some_same next (last_of f.name (take p fs)) (sym there ∙ link) ∙ ap (λ n. last_of n (take p fs)) same;
      chosen =
          s.chosen
          ∙ ap (λ o. or_found o later) (q.chosen ∙ choose_at name Ts fs p f in_list)
          ∙ or_or (choose name Ts (take p fs)) (taken p name Ts (get_or fs p f)) later
          ∙ ap (λ o. or_found (choose name Ts (take p fs)) (or_found o later)) (ap (taken p name Ts) (sym here) ∙ ap (λ b. cond (b && same_kinds f.formals Ts) (Some (record { number = p; signature = f })) None) named ∙ as_taken (same_kinds f.formals Ts) p f)
          ∙ ap (or_found (choose name Ts (take p fs))) (sym is);
    }

-- each older one has a smaller number
abbrev pub bound : Option ℕ → ℕ
bound None = 0
bound (Some p) = suc p

pub falls : (fs : List Signature) (older : List (Option ℕ)) (next : Option ℕ) (p : ℕ) (f : Signature) → p < length fs → f ≡ get_or fs p f →
    ((i : ℕ) (g : Signature) → slice_get fs i ≡ Some g → slice_get older i ≡ Some (last_of g.name (take i fs))) → slice_get older p ≡ Some next → bound next < suc p
falls fs older None p f within here links there = omega arith
falls fs older (Some q) p f within here links there =
    let link = links p f (slice_get-get_or fs p f within ∙ ap Some (sym here)) in
    let e : last_of f.name (take p fs) ≡ Some q = cc (sym there ∙ link) in
    omega (arith, (found f.name no_part fs p q (omega (arith, within)) e).before)

-- ---- links

pub none_linked : {Z : Type 0} (es : List (Vec ℕ Z × ℕ)) → es ≡ [] → IsLinked [] [] es
none_linked es h = record {
  many = refl;
  newest = λ name. ap (lookup (λ k. bytes_eq name k.items)) h;
  links = λ i f e. cc e;
}

insert_step : {Z : Type 0} (name : List ℕ) (e : Vec ℕ Z × ℕ) (es more : List (Vec ℕ Z × ℕ)) (k : Vec ℕ Z) (v : ℕ) (b : Bool) → bytes_eq k.items e.0.items ≡ b →
    lookup (λ j. bytes_eq name j.items) more ≡ cond (bytes_eq name k.items) (Some v) (lookup (λ j. bytes_eq name j.items) es) →
    lookup (λ j. bytes_eq name j.items) (cond b ((e.0, v) ∷ es) (e ∷ more)) ≡ cond (bytes_eq name k.items) (Some v) (cond (bytes_eq name e.0.items) (Some e.1) (lookup (λ j. bytes_eq name j.items) es))
insert_step name e es more k v true same rest =
    two_alike (bytes_eq name k.items) (bytes_eq name e.0.items) v e.1 (lookup (λ j. bytes_eq name j.items) es) (ap (bytes_eq name) (bytes_same k.items e.0.items same))
insert_step name e es more k v false apart rest =
    ap (cond (bytes_eq name e.0.items) (Some e.1)) rest
    ∙ two_apart (bytes_eq name k.items) (bytes_eq name e.0.items) v e.1 (lookup (λ j. bytes_eq name j.items) es)
    (λ x y. cc (sym apart ∙ ap (λ n. bytes_eq n e.0.items) (sym (bytes_same name k.items y)) ∙ x))

lookup_insert : {Z : Type 0} (name : List ℕ) (es : List (Vec ℕ Z × ℕ)) (k : Vec ℕ Z) (v : ℕ) →
    lookup (λ j. bytes_eq name j.items) (insert_entry (λ i j. bytes_eq i.items j.items) es k v) ≡ cond (bytes_eq name k.items) (Some v) (lookup (λ j. bytes_eq name j.items) es)
lookup_insert name [] k v = refl
lookup_insert name (e ∷ es) k v = insert_step name e es (insert_entry (λ i j. bytes_eq i.items j.items) es k v) k v (bytes_eq k.items e.0.items) refl (lookup_insert name es k v)

some_signature : (a b : Signature) → Some a ≡ Some b → a ≡ b
some_signature a b e = cc e

get_first : {A : Type 0} (xs : List A) (y : A) (i : ℕ) → i < length xs → slice_get (xs ++ y ∷ []) i ≡ slice_get xs i
get_first [] y i h = absurd (omega (arith, h))
get_first (x ∷ xs) y zero h = refl
get_first (x ∷ xs) y (suc i) h = get_first xs y i (omega (arith, h))

get_end : {A : Type 0} (xs : List A) (y : A) → slice_get (xs ++ y ∷ []) (length xs) ≡ Some y
get_end [] y = refl
get_end (x ∷ xs) y = get_end xs y

length_more : {A : Type 0} (xs : List A) (y : A) → length (xs ++ y ∷ []) ≡ suc (length xs)
length_more [] y = refl
length_more (x ∷ xs) y = ap (λ n. suc n) (length_more xs y)

take_first : {A : Type 0} (xs : List A) (y : A) (i : ℕ) → i ≤ length xs → take i (xs ++ y ∷ []) ≡ take i xs
take_first xs y zero h = refl
take_first [] y (suc i) h = absurd (omega (arith, h))
take_first (x ∷ xs) y (suc i) h = ap (λ zs. x ∷ zs) (take_first xs y i (omega (arith, h)))

pub one_linked : {Z : Type 0} (fs gs : List Signature) (older more : List (Option ℕ)) (es ns : List (Vec ℕ Z × ℕ)) (f : Signature) (k : Vec ℕ Z) (last : Option ℕ) (n : ℕ) → IsLinked fs older es → k.items ≡ f.name → last ≡ lookup (λ j. bytes_eq k.items j.items) es →
    n ≡ length fs → gs ≡ fs ++ f ∷ [] → more ≡ older ++ last ∷ [] → ns ≡ insert_entry (λ i j. bytes_eq i.items j.items) es k n → IsLinked gs more ns
one_linked fs gs older more es ns f k last n h key there count grown kept made = record {
  many = ap (λ (l : List (Option ℕ)). length l) kept ∙ length_more older last ∙ ap (λ m. suc m) h.many ∙ sym (length_more fs f) ∙ ap (λ (l : List Signature). length l) (sym grown);
  newest = λ name.
      ap (lookup (λ j. bytes_eq name j.items)) made
      ∙ lookup_insert name es k n
      ∙ (λ i. cond (bytes_eq name (key i)) (Some (count i)) (h.newest name i))
      ∙ ap (λ b. cond b (Some (length fs)) (last_of name fs)) (nat_list_eq_equiv.symm name f.name)
      ∙ sym (last_snoc name fs f)
      ∙ ap (last_of name) (sym grown);
  links = λ i g e. linked i g (sym (ap (λ l. slice_get l i) grown) ∙ e);
}
  where
    linked : (i : ℕ) (g : Signature) → slice_get (fs ++ f ∷ []) i ≡ Some g → slice_get more i ≡ Some (last_of g.name (take i gs))
    linked i g e = by (cases_lt i (length fs))
      where
        by : (i < length fs) ⊎ (length fs ≤ i) → slice_get more i ≡ Some (last_of g.name (take i gs))
        by (inl within) =
            ap (λ l. slice_get l i) kept ∙ get_first older last i (omega (arith, within, h.many))
            ∙ h.links i g (sym (get_first fs f i within) ∙ e)
            ∙ ap (λ l. Some (last_of g.name l)) (sym (take_first fs f i (omega (arith, within))) ∙ ap (take i) (sym grown))
        by (inr past) =
            let inside_more = slice_get_within (fs ++ f ∷ []) i g e in
            let at_last : i ≡ length fs = omega (arith, past, inside_more, length_more fs f) in
            let is_f : f ≡ g = some_signature f g (sym (get_end fs f) ∙ ap (slice_get (fs ++ f ∷ [])) (sym at_last) ∙ e) in
            ap (λ l. slice_get l i) kept
            ∙ ap (slice_get (older ++ last ∷ [])) (at_last ∙ sym h.many)
            ∙ get_end older last
            ∙ ap Some (there ∙ h.newest k.items ∙ ap (λ m. last_of m fs) (key ∙ ap (λ (x : Signature). x.name) is_f))
            ∙ ap (λ l. Some (last_of g.name l)) (sym (take_all i fs past) ∙ sym (take_first fs f i (omega (arith, at_last))) ∙ ap (take i) (sym grown))
