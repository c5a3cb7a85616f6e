-- Steps that the laws share.
use Rattle.std.proofs.Common.{◌≡◌, ◌⊎◌, inl, inr, Bool, true, false, List, [], ◌∷◌, ◌++◌, Ok, Err, refl, ap, sym, ◌∙◌, rules}
use denote.Enum.Bare.{same_true, true_same}
use Rattle.asl_grammar.specs.declared.error.ParseError.{ParseError}
use Rattle.asl_grammar.specs.contracts.kinds.Kind.{the_type}
use Rattle.asl_grammar.specs.declared.kinds.Kind.{Kind}
use Rattle.asl_grammar.specs.grammar.Kinds.{kind_of, same_kind}
use Rattle.asl_grammar.specs.grammar.Cursor.{Lexeme, Cursor, Kinds, among, one_of, starts}
use Rattle.asl_grammar.specs.grammar.Reader.{Outcome, bind, both, flipped, pick, apart, covers}

pub pick_cases : {A : Type 0} (b : Bool) (x y z : A) → pick b x y ≡ z → ((b ≡ true) × (x ≡ z)) ⊎ ((b ≡ false) × (y ≡ z))
pick_cases true x y z h = inl (refl, h)
pick_cases false x y z h = inr (refl, h)

pub bind_ok : {A B : Type 0} (o : Outcome A) (f : A → Cursor → Outcome B) (b : B) (end : Cursor) → bind o f ≡ Ok (b, end) → (a : A) × (mid : Cursor) × (o ≡ Ok (a, mid)) × (f a mid ≡ Ok (b, end))
bind_ok (Ok r) f b end h = (r.0, r.1, refl, h)
bind_ok (Err e) f b end h = cc

pub bind_err : {A B : Type 0} (o : Outcome A) (f : A → Cursor → Outcome B) (e : ParseError) → bind o f ≡ Err e → (o ≡ Err e) ⊎ ((a : A) × (mid : Cursor) × (o ≡ Ok (a, mid)) × (f a mid ≡ Err e))
bind_err (Ok r) f e h = inr (r.0, r.1, refl, h)
bind_err (Err e') f e h = inl (cc)

pub both_true : (a b : Bool) → both a b ≡ true → (a ≡ true) × (b ≡ true)
both_true true b h = (refl, h)
both_true false b h = cc

-- the five conditions on a choice
pub both_five : (a b c d e : Bool) → both a (both b (both (flipped c) (both (flipped d) e))) ≡ true → (a ≡ true) × (b ≡ true) × (c ≡ false) × (d ≡ false) × (e ≡ true)
both_five true true false false true h = (refl, refl, refl, refl, refl)
both_five true true false false false h = cc
both_five true true false true e h = cc
both_five true true true d e h = cc
both_five true false c d e h = cc
both_five false b c d e h = cc

pub both_four : (a b c d : Bool) → both a (both b (both (flipped c) d)) ≡ true → (a ≡ true) × (b ≡ true) × (c ≡ false) × (d ≡ true)
both_four true true false d h = (refl, refl, refl, h)
both_four true true true d h = cc
both_four true false c d h = cc
both_four false b c d h = cc

-- the three conditions on items
pub both_three : (a b c : Bool) → both a (both (flipped b) c) ≡ true → (a ≡ true) × (b ≡ false) × (c ≡ true)
both_three true false c h = (refl, refl, h)
both_three true true c h = cc
both_three false b c h = cc

pub flipped_true : (a : Bool) → flipped a ≡ true → a ≡ false
flipped_true true h = cc
flipped_true false h = refl

pub one_of_false : (a b : Bool) → one_of a b ≡ false → (a ≡ false) × (b ≡ false)
one_of_false true b h = cc
one_of_false false b h = (refl, h)

pub one_of_true : (a b : Bool) → one_of a b ≡ true → (a ≡ true) ⊎ (b ≡ true)
one_of_true true b h = inl refl
one_of_true false b h = inr h

one_of_right : (a b : Bool) → b ≡ true → one_of a b ≡ true
one_of_right true b h = refl
one_of_right false b h = h

one_of_assoc : (a b c : Bool) → one_of a (one_of b c) ≡ one_of (one_of a b) c
one_of_assoc true b c = refl
one_of_assoc false b c = refl

-- `==` on kinds
pub same_is : (c k : Kind) → same_kind c k ≡ true → c ≡ k
same_is c k h = same_true the_type (search rules) c k h

pub same_self : (c : Kind) → same_kind c c ≡ true
same_self c = true_same the_type c c refl

pub among_append : (cs ds : Kinds) (k : Kind) → among (cs ++ ds) k ≡ one_of (among cs k) (among ds k)
among_append [] ds k = refl
among_append (c ∷ cs) ds k = ap (one_of (same_kind c k)) (among_append cs ds k) ∙ one_of_assoc (same_kind c k) (among cs k) (among ds k)

pub starts_append-false : (cs ds : Kinds) (ts : List Lexeme) → starts (cs ++ ds) ts ≡ false → (starts cs ts ≡ false) × (starts ds ts ≡ false)
starts_append-false cs ds [] h = (refl, refl)
starts_append-false cs ds (t ∷ ts) h = one_of_false _ _ (sym (among_append cs ds (kind_of t.kind)) ∙ h)

pub starts_append-true : (cs ds : Kinds) (ts : List Lexeme) → starts (cs ++ ds) ts ≡ true → (starts cs ts ≡ true) ⊎ (starts ds ts ≡ true)
starts_append-true cs ds [] h = cc
starts_append-true cs ds (t ∷ ts) h = one_of_true _ _ (sym (among_append cs ds (kind_of t.kind)) ∙ h)

pub starts_left : (cs ds : Kinds) (ts : List Lexeme) → starts cs ts ≡ true → starts (cs ++ ds) ts ≡ true
starts_left cs ds [] h = cc
starts_left cs ds (t ∷ ts) h = among_append cs ds (kind_of t.kind) ∙ ap (λ b. one_of b (among ds (kind_of t.kind))) h

pub starts_right : (cs ds : Kinds) (ts : List Lexeme) → starts ds ts ≡ true → starts (cs ++ ds) ts ≡ true
starts_right cs ds [] h = cc
starts_right cs ds (t ∷ ts) h = among_append cs ds (kind_of t.kind) ∙ one_of_right _ _ h

-- a kind is none of these
abbrev pub IsNoneOf : Kinds → Kind → Type 0
IsNoneOf [] k = Unit {0}
IsNoneOf (c ∷ cs) k = (k ≡ c → ⊥) × IsNoneOf cs k

pub none_among : (cs : Kinds) (k : Kind) → IsNoneOf cs k → among cs k ≡ true → ⊥
none_among [] k n h = absurd cc
none_among (c ∷ cs) k n h = elim (one_of_true (same_kind c k) (among cs k) h) [ inl e ↦ n.0 (sym (same_is c k e)) | inr e ↦ none_among cs k n.1 e ]

among_apart : (cs ds : Kinds) (k : Kind) → apart cs ds ≡ true → among ds k ≡ true → among cs k ≡ false
among_apart [] ds k a h = refl
among_apart (c ∷ cs) ds k a h = go (among_apart cs ds k (both_true _ _ a).1 h) (same_kind c k) refl
  where
    go : among cs k ≡ false → (b : Bool) → same_kind c k ≡ b → one_of (same_kind c k) (among cs k) ≡ false
    go rest true e =
        let same : c ≡ k = same_is c k e in
        let off : among ds c ≡ false = flipped_true _ (both_true _ _ a).0 in
        let on : among ds c ≡ true = ap (among ds) same ∙ h in
        cc
    go rest false e = ap (λ b. one_of b (among cs k)) e ∙ rest

pub starts_apart : (cs ds : Kinds) (ts : List Lexeme) → apart cs ds ≡ true → starts ds ts ≡ true → starts cs ts ≡ false
starts_apart cs ds [] a h = refl
starts_apart cs ds (t ∷ ts) a h = among_apart cs ds (kind_of t.kind) a h

among_covers : (ds cs : Kinds) (k : Kind) → covers ds cs ≡ true → among ds k ≡ false → among cs k ≡ false
among_covers ds [] k a h = refl
among_covers ds (c ∷ cs) k a h = go (among_covers ds cs k (both_true _ _ a).1 h) (same_kind c k) refl
  where
    go : among cs k ≡ false → (b : Bool) → same_kind c k ≡ b → one_of (same_kind c k) (among cs k) ≡ false
    go rest true e =
        let same : c ≡ k = same_is c k e in
        let on : among ds c ≡ true = (both_true _ _ a).0 in
        let off : among ds c ≡ false = ap (among ds) same ∙ h in
        cc
    go rest false e = ap (λ b. one_of b (among cs k)) e ∙ rest

pub starts_covers : (ds cs : Kinds) (ts : List Lexeme) → covers ds cs ≡ true → starts ds ts ≡ false → starts cs ts ≡ false
starts_covers ds cs [] a h = refl
starts_covers ds cs (t ∷ ts) a h = among_covers ds cs (kind_of t.kind) a h
