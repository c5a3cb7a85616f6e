-- What holds of each span of a tree.
use Rattle.std.proofs.Common.{inl, inr, refl}
use Rattle.asl_syn.specs.declared.token.Span.{Span}
use Rattle.asl_laws.specs.Spans.{Mark, place, literal, Spans, no_span, one, both, Each, Placed, IsAmong}

-- what holds of each mark that has another property
pub each_so : (P Q : Mark → Type 0) → ((mark : Mark) → P mark → Q mark) → (s : Spans) → Each P s → Each Q s
each_so P Q k no_span h = tt
each_so P Q k (one mark) h = k mark h
each_so P Q k (both a b) h = (each_so P Q k a h.0, each_so P Q k b h.1)

-- and of each span
pub each_placed : (P Q : Span → Type 0) → ((span : Span) → P span → Q span) → (s : Spans) → Each (Placed P) s → Each (Placed Q) s
each_placed P Q k = each_so (Placed P) (Placed Q) placed
  where
    placed : (mark : Mark) → Placed P mark → Placed Q mark
    placed (place span) h = k span h
    placed (literal span text) h = k span h

-- what holds of all marks
pub each_one : (P : Mark → Type 0) → ((mark : Mark) → P mark) → (s : Spans) → Each P s
each_one P k no_span = tt
each_one P k (one mark) = k mark
each_one P k (both a b) = (each_one P k a, each_one P k b)

-- each span is one of them
pub each_among : (s : Spans) → Each (Placed (λ span. IsAmong span s)) s
each_among no_span = tt
each_among (one (place span)) = refl
each_among (one (literal span text)) = refl
each_among (both a b) = (
  each_placed (λ span. IsAmong span a) (λ span. IsAmong span (both a b)) (λ span h. inl h) a (each_among a),
  each_placed (λ span. IsAmong span b) (λ span. IsAmong span (both a b)) (λ span h. inr h) b (each_among b),
)
