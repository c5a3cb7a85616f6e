-- The check of a rule from those of its parts, so that no rule is gone through twice.
use Rattle.std.proofs.Common.{◌≡◌, ◌⊎◌, inl, inr, Bool, true, false, [], ◌∷◌, ◌++◌, refl, ap, sym, ◌∙◌, subst}
use Rattle.asl_grammar.specs.declared.kinds.Kind.{Kind}
use Rattle.asl_grammar.specs.grammar.Kinds.{same_kind}
use Rattle.asl_grammar.specs.grammar.Cursor.{Kinds, among, one_of}
use Rattle.asl_grammar.specs.grammar.Combinators.{tok, opens, into, seq, either, opt, many, by, spanned, scope, closed, trail, costs, follows}
use Rattle.asl_grammar.specs.grammar.Reader.{nullable, first, cont, by_one, both, flipped, pick, apart, covers}
use Rattle.asl_grammar.specs.grammar.Rules.{Sym, Rule, after}
use Rattle.asl_grammar.proofs.grammar.Basics.{both_true, flipped_true, among_append, one_of_true, same_is, same_self}

abbrev pub Within : Kinds → Kinds → Type 0
Within cs C = (k : Kind) → among cs k ≡ true → among C k ≡ true

one_left : (a b : Bool) → a ≡ true → one_of a b ≡ true
one_left true b h = refl
one_left false b h = cc

one_right : (a b : Bool) → b ≡ true → one_of a b ≡ true
one_right true b h = refl
one_right false b h = h

pub within_covers : (C cs : Kinds) → covers C cs ≡ true → Within cs C
within_covers C [] h k m = cc
within_covers C (c ∷ cs) h k m = go (both_true (among C c) (covers C cs) h) (within_covers C cs) (one_of_true (same_kind c k) (among cs k) m)
  where
    go : (among C c ≡ true) × (covers C cs ≡ true) → (covers C cs ≡ true → Within cs C) → (same_kind c k ≡ true) ⊎ (among cs k ≡ true) → among C k ≡ true
    go b ih (inl e) = let same : c ≡ k = same_is c k e in ap (among C) (sym same) ∙ b.0
    go b ih (inr e) = ih b.1 k e

apart_at : (C F : Kinds) (k : Kind) → apart C F ≡ true → among C k ≡ true → among F k ≡ false
apart_at [] F k a m = cc
apart_at (c ∷ C) F k a m = go (both_true (flipped (among F c)) (apart C F) a) (apart_at C F k) (one_of_true (same_kind c k) (among C k) m)
  where
    go : (flipped (among F c) ≡ true) × (apart C F ≡ true) → (apart C F ≡ true → among C k ≡ true → among F k ≡ false) → (same_kind c k ≡ true) ⊎ (among C k ≡ true) → among F k ≡ false
    go b ih (inl e) = let same : c ≡ k = same_is c k e in ap (among F) (sym same) ∙ flipped_true _ b.0
    go b ih (inr e) = ih b.1 e

not_among : (F ds : Kinds) (k : Kind) → Within ds F → among F k ≡ false → among ds k ≡ false
not_among F ds k w h = go (among ds k) refl
  where
    go : (b : Bool) → among ds k ≡ b → among ds k ≡ false
    go true e = let q : among F k ≡ true = w k e in cc
    go false e = e

pub apart_less : (cs ds C F : Kinds) → Within cs C → Within ds F → apart C F ≡ true → apart cs ds ≡ true
apart_less [] ds C F w v a = refl
apart_less (c ∷ cs) ds C F w v a =
    let here : among ds c ≡ false = not_among F ds c v (apart_at C F c a (w c (one_left (same_kind c c) (among cs c) (same_self c)))) in
    let rest : apart cs ds ≡ true = apart_less cs ds C F (λ k m. w k (one_right (same_kind c k) (among cs k) m)) v a in
    ap (λ b. both (flipped b) (apart cs ds)) here ∙ rest

within_append : (cs ds C D : Kinds) → Within cs C → Within ds D → Within (cs ++ ds) (C ++ D)
within_append cs ds C D w v k m = among_append C D k ∙ go (one_of_true (among cs k) (among ds k) (sym (among_append cs ds k) ∙ m))
  where
    go : (among cs k ≡ true) ⊎ (among ds k ≡ true) → one_of (among C k) (among D k) ≡ true
    go (inl e) = one_left (among C k) (among D k) (w k e)
    go (inr e) = one_right (among C k) (among D k) (v k e)

within_pick : (b b' : Bool) (cs C : Kinds) → b ≡ b' → Within cs C → Within (pick b cs []) (pick b' C [])
within_pick b b' cs C e w = subst (λ z. Within (pick b cs []) (pick z C [])) e (go b)
  where
    go : (b : Bool) → Within (pick b cs []) (pick b C [])
    go true = w
    go false = λ k m. m

pub record Facts {A : Type 0} (g : Rule A) (n : Bool) (F C : Kinds) : Type 0 where
  pub ok : by_one after g ≡ true
  pub null : nullable g ≡ n
  pub firsts : Within (first g) F
  pub conts : Within (cont after g) C

self : (cs : Kinds) → Within cs cs
self cs k m = m

both_is : (a b : Bool) → a ≡ true → b ≡ true → both a b ≡ true
both_is true b h k = k
both_is false b h k = cc

pub weaken : {A : Type 0} (g : Rule A) (n : Bool) (F C F' C' : Kinds) → covers F' F ≡ true → covers C' C ≡ true → Facts g n F C → Facts g n F' C'
weaken g n F C F' C' f c x = record { ok = x.ok; null = x.null; firsts = λ k m. within_covers F' F f k (x.firsts k m); conts = λ k m. within_covers C' C c k (x.conts k m) }

not_null : (b : Bool) → b ≡ false → flipped b ≡ true
not_null b h = ap flipped h

within_two : (cs ds C : Kinds) → Within cs C → Within ds C → Within (cs ++ ds) C
within_two cs ds C w v k m = go (one_of_true (among cs k) (among ds k) (sym (among_append cs ds k) ∙ m))
  where
    go : (among cs k ≡ true) ⊎ (among ds k ≡ true) → among C k ≡ true
    go (inl e) = w k e
    go (inr e) = v k e

pub tok_f : {cs : Kinds} → Facts (tok cs) false cs []
tok_f {cs} = record { ok = refl; null = refl; firsts = self cs; conts = self [] }

pub opens_f : {cs : Kinds} → Facts (opens cs) false cs []
opens_f {cs} = record { ok = refl; null = refl; firsts = self cs; conts = self [] }

pub into_f : {cs : Kinds} {s : Sym} → Facts (into cs s) false cs (after s)
into_f {cs} {s} = record { ok = refl; null = refl; firsts = self cs; conts = self (after s) }

pub closed_f : {cs : Kinds} {s : Sym} → Facts (closed cs s) false cs (after s)
closed_f {cs} {s} = record { ok = refl; null = refl; firsts = self cs; conts = self (after s) }

pub seq_f : {A B : Type 0} {p : Rule A} {q : Rule B} {n m : Bool} {F C F' C' : Kinds} → Facts p n F C → Facts q m F' C' → apart C F' ≡ true → Facts (seq p q) (both n m) (F ++ pick n F' []) (C' ++ pick m C [])
seq_f {A} {B} {p} {q} {n} {m} {F} {C} {F'} {C'} x y a = record {
  ok = both_is _ _ x.ok (both_is _ _ y.ok (apart_less (cont after p) (first q) C F' x.conts y.firsts a));
  null = ap (λ b. both b (nullable q)) x.null ∙ ap (both n) y.null;
  firsts = within_append (first p) _ F _ x.firsts (within_pick (nullable p) n (first q) F' x.null y.firsts);
  conts = within_append (cont after q) _ C' _ y.conts (within_pick (nullable q) m (cont after p) C y.null x.conts);
}

pub either_f : {A : Type 0} {p q : Rule A} {F C F' C' : Kinds} → Facts p false F C → Facts q false F' C' → apart F F' ≡ true → Facts (either p q) false (F ++ F') (C ++ C')
either_f {A} {p} {q} {F} {C} {F'} {C'} x y a = record {
  ok = both_is _ _ x.ok (both_is _ _ y.ok (both_is _ _ (not_null (nullable p) x.null) (both_is _ _ (not_null (nullable q) y.null) (apart_less (first p) (first q) F F' x.firsts y.firsts a))));
  null = refl;
  firsts = within_append (first p) (first q) F F' x.firsts y.firsts;
  conts = within_append (cont after p) (cont after q) C C' x.conts y.conts;
}

pub opt_f : {A : Type 0} {p : Rule A} {F C : Kinds} → Facts p false F C → Facts (opt p) true F (F ++ C)
opt_f {A} {p} {F} {C} x = record { ok = both_is _ _ x.ok (not_null (nullable p) x.null); null = refl; firsts = x.firsts; conts = within_append (first p) (cont after p) F C x.firsts x.conts }

pub many_f : {A : Type 0} {p : Rule A} {F C : Kinds} → Facts p false F C → apart C F ≡ true → Facts (many p) true F (F ++ C)
many_f {A} {p} {F} {C} x a = record { ok = both_is _ _ x.ok (both_is _ _ (not_null (nullable p) x.null) (apart_less (cont after p) (first p) C F x.conts x.firsts a)); null = refl; firsts = x.firsts; conts = within_append (first p) (cont after p) F C x.firsts x.conts }

pub by_f : {A B : Type 0} {f : A → B} {p : Rule A} {n : Bool} {F C : Kinds} → Facts p n F C → Facts (by f p) n F C
by_f x = record { ok = x.ok; null = x.null; firsts = x.firsts; conts = x.conts }

pub spanned_f : {A : Type 0} {p : Rule A} {F C : Kinds} → Facts p false F C → Facts (spanned p) false F C
spanned_f {A} {p} x = record { ok = both_is _ _ x.ok (not_null (nullable p) x.null); null = x.null; firsts = x.firsts; conts = x.conts }

pub scope_f : {A : Type 0} {p : Rule A} {n : Bool} {F C : Kinds} → Facts p n F C → Facts (scope p) n F C
scope_f x = record { ok = x.ok; null = x.null; firsts = x.firsts; conts = x.conts }

pub trail_f : {A : Type 0} {cs : Kinds} {p : Rule A} {F C : Kinds} → Facts p false F C → apart C cs ≡ true → Facts (trail cs p) true cs (cs ++ (F ++ C))
trail_f {A} {cs} {p} {F} {C} x a = record {
  ok = both_is _ _ x.ok (both_is _ _ (not_null (nullable p) x.null) (apart_less (cont after p) cs C cs x.conts (self cs) a));
  null = refl;
  firsts = self cs;
  conts = within_append cs _ cs _ (self cs) (within_append (first p) (cont after p) F C x.firsts x.conts);
}

pub costs_f : {A : Type 0} {late : Bool} {p : Rule A} {F C : Kinds} → Facts p false F C → Facts (costs late p) false F C
costs_f {A} {late} {p} x = record { ok = both_is _ _ x.ok (not_null (nullable p) x.null); null = refl; firsts = x.firsts; conts = x.conts }

pub follows_f : {A B C : Type 0} {p : Rule (A ⊎ B)} {q : Rule C} {m : Bool} {F K F' K' : Kinds} → Facts p false F K → Facts q m F' K' → apart K F' ≡ true → Facts (follows p q) false F (K' ++ K)
follows_f {A} {B} {C} {p} {q} {m} {F} {K} {F'} {K'} x y a = record {
  ok = both_is _ _ x.ok (both_is _ _ y.ok (both_is _ _ (not_null (nullable p) x.null) (apart_less (cont after p) (first q) K F' x.conts y.firsts a)));
  null = refl;
  firsts = x.firsts;
  conts = within_append (cont after q) (cont after p) K' K y.conts x.conts;
}

-- the same with greater sets
pub fit : {A : Type 0} {g : Rule A} {n : Bool} {F C : Kinds} (F' C' : Kinds) → Facts g n F C → covers F' F ≡ true → covers C' C ≡ true → Facts g n F' C'
fit {A} {g} {n} {F} {C} F' C' x f c = record { ok = x.ok; null = x.null; firsts = λ k m. within_covers F' F f k (x.firsts k m); conts = λ k m. within_covers C' C c k (x.conts k m) }

covers_more : (C cs : Kinds) (c : Kind) → among C c ≡ true → covers C cs ≡ true → both (among C c) (covers C cs) ≡ true
covers_more C cs c h k = both_is (among C c) (covers C cs) h k

pub covered_by : (cs C : Kinds) → Within cs C → covers C cs ≡ true
covered_by [] C w = refl
covered_by (c ∷ cs) C w = covers_more C cs c (w c (one_left (same_kind c c) (among cs c) (same_self c))) (covered_by cs C (λ k m. w k (one_right (same_kind c k) (among cs k) m)))
