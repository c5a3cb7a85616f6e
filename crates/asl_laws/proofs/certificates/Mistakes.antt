-- The mistake of a line: whether it is one of the grammar, and what it is about.
use Rattle.std.proofs.Common.{◌≡◌, ℕ, ◌==◌, Bool, true, false, List, [], ◌∷◌, refl, sym, ap, ◌∙◌, subst}
use Rattle.std.specs.Prelude.{if◌then◌else◌, codes}
use Rattle.std.specs.Str.{bytes_eq}
use Rattle.std.specs.List.{slice_split}
use Rattle.std.proofs.lemmas.Slice.Eq.{bytes_eq-Decides}
use Rattle.asl_rules.specs.report.Texts.{Text}
use Rattle.asl_laws.specs.certificates.Texts.{first_line}
use Rattle.asl_laws.specs.certificates.Format.{is_line, is_space, about, about_of}
use Rattle.asl_laws.specs.certificates.Certificates.{Mistake, V01, V02, V03, mistake_about}
use Rattle.asl_laws.specs.certificates.Spellings.{IsName, IsNumber, TypeSpelled, EndingSpelled, LineSpelled}
use Rattle.asl_laws.specs.certificates.Mistakes.{AboutLaw, MistakeLaw}
use Rattle.asl_laws.proofs.certificates.Spellings.{line_spelled}
use Rattle.asl_laws.proofs.certificates.Calm.{free_by}
use Rattle.asl_laws.proofs.certificates.Recognised.{name_free, number_free, type_free, ending_so, node_split, short_split, line_recognised}

-- ---- what a line is about

first_byte : Text → ℕ
first_byte [] = 0
first_byte (b ∷ bs) = b

not_first : (t : Text) (b : ℕ) (rest : Text) → t ≡ b ∷ rest → (b ≡ 97 → ⊥) → bytes_eq t first_line ≡ false
unfolding first_byte
not_first t b rest e n = by (bytes_eq t first_line) refl
  where
    by : (x : Bool) → bytes_eq t first_line ≡ x → x ≡ false
    by true h = absurd (n (sym (ap first_byte e) ∙ ap first_byte ((bytes_eq-Decides t first_line).0 h)))
    by false h = refl

about_by : (t : Text) (b : ℕ) (rest : Text) (ps : List Text) → t ≡ b ∷ rest → (b ≡ 97 → ⊥) → slice_split is_space t ≡ ps →
    about t ≡ about_of ps
about_by t b rest ps e n h = ap (λ x. if x then first_line else about_of (slice_split is_space t)) (not_first t b rest e n) ∙ ap about_of h

isnt_97 : (b : ℕ) → (b == 97) ≡ false → b ≡ 97 → ⊥
isnt_97 b h e = true_is (sym (ap (λ z. z == 97) e) ∙ h)
  where
    true_is : true ≡ false → ⊥
    true_is h = cc

pub about_law : (t : Text) → AboutLaw t
about_law t = record {
  first = λ e. ap about e;
  expr = λ l. let c = node_split (codes "E") (TypeSpelled 100) t (free_by 32 (codes "E") refl) (type_free 100) l in
      about_by t 69 _ (codes "E" ∷ l.span ∷ l.effect ∷ l.what ∷ c.0.parts) l.is (isnt_97 69 refl) c.1;
  stmt = λ l. let c = node_split (codes "S") EndingSpelled t (free_by 32 (codes "S") refl) (λ x h. (ending_so x h).1) l in
      about_by t 83 _ (codes "S" ∷ l.span ∷ l.effect ∷ l.what ∷ c.0.parts) l.is (isnt_97 83 refl) c.1;
  body = λ l. about_by t 66 _ (codes "B" ∷ l.what ∷ []) l.is (isnt_97 66 refl)
      (short_split (codes "B") IsName t (free_by 32 (codes "B") refl) name_free l);
  end = λ l. about_by t 101 _ (codes "end" ∷ l.what ∷ []) l.is (isnt_97 101 refl)
      (short_split (codes "end") IsNumber t (free_by 32 (codes "end") refl) number_free l);
}

-- ---- mistakes

Is01 : Mistake → Type 0
Is01 V01 = Unit {0}
Is01 V02 = ⊥
Is01 V03 = ⊥

Is02 : Mistake → Type 0
Is02 V01 = ⊥
Is02 V02 = Unit {0}
Is02 V03 = ⊥

Is03 : Mistake → Type 0
Is03 V01 = ⊥
Is03 V02 = ⊥
Is03 V03 = Unit {0}

true_false : {A : Type 0} (x : Bool) → x ≡ true → x ≡ false → A
true_false x h k = absurd (true_is (sym h ∙ k))
  where
    true_is : true ≡ false → ⊥
    true_is h = cc

module _ (t place : Text) where
  -- what a mistake says of a line
  Says : Mistake → Type 0
  Says V01 = LineSpelled t → ⊥
  Says V02 = LineSpelled t × (about t ≡ place → ⊥)
  Says V03 = LineSpelled t × (about t ≡ place)

  says_by : (a b : Bool) → is_line t ≡ a → bytes_eq (about t) place ≡ b → Says (if a then (if b then V03 else V02) else V01)
  unfolding Says
  says_by true true h k = (line_spelled t h, (bytes_eq-Decides (about t) place).0 k)
  says_by true false h k = (line_spelled t h, λ e. true_false (bytes_eq (about t) place) ((bytes_eq-Decides (about t) place).1 e) k)
  says_by false b h k = λ l. true_false (is_line t) (line_recognised t l) h

  says : Says (mistake_about t place)
  says = says_by (is_line t) (bytes_eq (about t) place) refl refl

  -- and each says something else
  one : (m n : Mistake) → Says m → Says n → m ≡ n
  unfolding Says
  one V01 V01 p q = refl
  one V01 V02 p q = absurd (p q.0)
  one V01 V03 p q = absurd (p q.0)
  one V02 V01 p q = absurd (q p.0)
  one V02 V02 p q = refl
  one V02 V03 p q = absurd (p.1 q.1)
  one V03 V01 p q = absurd (q p.0)
  one V03 V02 p q = absurd (q.1 p.1)
  one V03 V03 p q = refl

  pub mistake_law : MistakeLaw t place
  unfolding Says
  mistake_law = record {
    v01 = (λ h. subst Says h says, λ n. one (mistake_about t place) V01 says n);
    v02 = (λ h. subst Says h says, λ l n. one (mistake_about t place) V02 says (l, n));
    v03 = (λ h. subst Says h says, λ l e. one (mistake_about t place) V03 says (l, e));
  }
