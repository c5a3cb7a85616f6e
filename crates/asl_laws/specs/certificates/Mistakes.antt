-- The mistake of a line as a statement: whether it is one of the grammar, and what it is about.
use Rattle.std.specs.Prelude.{◌≡◌, ◌++◌, codes}
use Rattle.asl_rules.specs.report.Texts.{Text}
use Rattle.asl_laws.specs.certificates.Texts.{first_line}
use Rattle.asl_laws.specs.certificates.Format.{about}
use Rattle.asl_laws.specs.certificates.Certificates.{V01, V02, V03, mistake_about}
use Rattle.asl_laws.specs.certificates.Spellings.{IsName, IsNumber, TypeSpelled, EndingSpelled, NodeLine, ShortLine, LineSpelled}

-- what a line of the grammar is about
pub record AboutLaw (t : Text) : Type 0 where
  pub first : t ≡ first_line → about t ≡ first_line
  pub expr : (l : NodeLine (codes "E") (TypeSpelled 100) t) → about t ≡ codes "E " ++ l.span
  pub stmt : (l : NodeLine (codes "S") EndingSpelled t) → about t ≡ codes "S " ++ l.span
  pub body : (l : ShortLine (codes "B") IsName t) → about t ≡ codes "B " ++ l.what
  pub end : ShortLine (codes "end") IsNumber t → about t ≡ codes "end"

-- V01 exactly of what is no line of the grammar, V02 exactly of a line about something else, and V03 of the others
pub record MistakeLaw (t place : Text) : Type 0 where
  pub v01 : (mistake_about t place ≡ V01 → LineSpelled t → ⊥) × ((LineSpelled t → ⊥) → mistake_about t place ≡ V01)
  pub v02 : (mistake_about t place ≡ V02 → LineSpelled t × (about t ≡ place → ⊥)) ×
      (LineSpelled t → (about t ≡ place → ⊥) → mistake_about t place ≡ V02)
  pub v03 : (mistake_about t place ≡ V03 → LineSpelled t × (about t ≡ place)) ×
      (LineSpelled t → about t ≡ place → mistake_about t place ≡ V03)
