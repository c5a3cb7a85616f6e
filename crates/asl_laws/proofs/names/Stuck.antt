-- Where each of some declarations uses another one of them, one of these reaches itself.
use Rattle.std.proofs.Common.{◌≡◌, inl, inr, Bool, true, false, List, [], ◌∷◌, length, refl, sym, ◌∙◌, subst}
use Rattle.asl_syn.specs.declared.tree.Decl.{Decl}
use Rattle.asl_rules.specs.declarations.Uses.{uses_one_of, leads_to, reaches_itself}
use Rattle.asl_rules.proofs.basics.Tests.{no}
use Rattle.asl_rules.proofs.verdict.Distinct.{In}
use Rattle.asl_rules.proofs.verdict.Reaching.{one_step, short, then_on}

module _ (ds : List Decl) where
  is_false : (b : Bool) → (b ≡ true → ⊥) → b ≡ false
  is_false true h = absurd (h refl)
  is_false false h = refl

  -- one that reaches none of these
  record Least (xs : List Decl) : Type 0 where
    pub one : Decl
    pub is_in : In one xs
    pub none : (e : Decl) → In e xs → leads_to (length ds) ds one e ≡ false

  not_both : {C : Type 0} (b : Bool) → b ≡ true → b ≡ false → C
  not_both b h g = no (sym g ∙ h)

  least_by : (x : Decl) (xs : List Decl) → ((d : Decl) → In d (x ∷ xs) → In d ds) →
      ((d : Decl) → In d (x ∷ xs) → reaches_itself ds d ≡ false) → (m : Least xs) → (b : Bool) → leads_to (length ds) ds m.one x ≡ b →
      Least (x ∷ xs)
  least_by x xs i r m true h = record {
    one = x;
    is_in = inl refl;
    none = λ e j. is_false (leads_to (length ds) ds x e) (λ k. from e j k);
  }
    where
      from : (e : Decl) → In e (x ∷ xs) → leads_to (length ds) ds x e ≡ true → ⊥
      from e (inl q) k = not_both (leads_to (length ds) ds x x) (subst (λ z. leads_to (length ds) ds x z ≡ true) (sym q) k) (r x (inl refl))
      from e (inr j) k =
          let on = then_on ds (length ds) (length ds) m.one x e (i x (inl refl)) h k in
          not_both (leads_to (length ds) ds m.one e) (short ds m.one e (i m.one (inr m.is_in)) on) (m.none e j)
  least_by x xs i r m false h = record { one = m.one; is_in = inr m.is_in; none = from }
    where
      from : (e : Decl) → In e (x ∷ xs) → leads_to (length ds) ds m.one e ≡ false
      from e (inl q) = subst (λ z. leads_to (length ds) ds m.one z ≡ false) q h
      from e (inr j) = m.none e j

  least : (x : Decl) (xs : List Decl) → ((d : Decl) → In d (x ∷ xs) → In d ds) →
      ((d : Decl) → In d (x ∷ xs) → reaches_itself ds d ≡ false) → Least (x ∷ xs)
  least x [] i r = record { one = x; is_in = inl refl; none = from }
    where
      from : (e : Decl) → In e (x ∷ []) → leads_to (length ds) ds x e ≡ false
      from e (inl q) = subst (λ z. leads_to (length ds) ds x z ≡ false) q (r x (inl refl))
      from e (inr j) = absurd j
  least x (y ∷ ys) i r =
      let m = least y ys (λ d j. i d (inr j)) (λ d j. r d (inr j)) in
      least_by x (y ∷ ys) i r m (leads_to (length ds) ds m.one x) refl

  -- one that is used, among these
  pub record UsesOne (d : Decl) (xs : List Decl) : Type 0 where
    pub one : Decl
    pub is_in : In one xs
    pub is_used : uses_one_of d one ≡ true

  pub none_stuck : (xs : List Decl) → ((d : Decl) → In d xs → In d ds) → ((d : Decl) → In d xs → reaches_itself ds d ≡ false) →
      ((d : Decl) → In d xs → UsesOne d xs) → (d : Decl) → In d xs → ⊥
  none_stuck [] i r u d j = j
  none_stuck (x ∷ xs) i r u d j =
      let m = least x xs i r in
      let v = u m.one m.is_in in
      not_both (leads_to (length ds) ds m.one v.one) (one_step ds (length ds) m.one v.one v.is_used) (m.none v.one v.is_in)
