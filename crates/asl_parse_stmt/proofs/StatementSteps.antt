-- Rules whose functions take what was read before them, whose trees are known only where they end, or whose parts stand a level below.
use Rattle.std.proofs.Common.{◌≡◌, inl, inr, ℕ, zero, suc, List, [], ◌∷◌, Option, Ok, refl, ap, sym, ◌∙◌}
use Rattle.asl_syn.specs.declared.read.ReadStmt.TheVariants as rs
use Rattle.asl_grammar.specs.declared.parts.Bodied.TheVariants as bo
use Rattle.asl_syn.specs.declared.tree.PlacedSuffix.{PlacedSuffix}
use Rattle.asl_syn.specs.declared.tree.Direction.{Direction}
use Rattle.asl_syn.specs.declared.tree.Expr.{Expr}
use Rattle.asl_syn.specs.declared.tree.Formal.{Formal}
use Rattle.asl_syn.specs.declared.tree.Ident.{Ident}
use Rattle.asl_syn.specs.declared.tree.Param.{Param}
use Rattle.asl_syn.specs.declared.tree.Qualifier.{Qualifier}
use Rattle.asl_syn.specs.declared.tree.TypeExpr.{TypeExpr}
use Rattle.asl_syn.specs.declared.tree.Target.{Target}
use Rattle.asl_syn.specs.declared.tree.Target.TheVariants as tg
use Rattle.asl_syn.specs.declared.tree.Stmt.TheVariants as stm
use Rattle.asl_grammar.specs.declared.kinds.Kind.TheVariants as kind
use Rattle.asl_grammar.specs.grammar.Cursor.{Cursor, Kinds, starts, ahead, span_to}
use Rattle.asl_grammar.specs.grammar.Reader.{Outcome, bind, pick, run_tok, run_opens}
use Rattle.asl_grammar.specs.grammar.Build.{place_of, called_of, name_statement_of, VarRest, Untyped}
use Rattle.asl_grammar.specs.grammar.Rules.{Sym, Val, rule, IfBody, CaseBody, ForBody, WhileBody, RepeatBody, TryBody, TargetParts, if_body, case_body, for_body, while_body, repeat_body, try_body, if_statement, case_statement, for_statement, while_statement, repeat_statement, try_statement, two_targets, target_parts, targets, name, names_typed, typed_value, value, var_rest, name_statement, assigned, expression, direction, loop_limit, block, qualifier, maybe_params, formals, result_type, recursion_limit, function, called, call_arguments, after_call, accessor, getter, setter, formal}
use Rattle.asl_parse_expr.specs.private.Code.{reading, symbol, then, ending}
use Rattle.asl_parse_expr.proofs.Loops.{bind_bind, bind_same}
use Rattle.asl_parse_stmt.specs.private.Heads.{for_head, function_head, accessor_head}
use Rattle.asl_parse_stmt.specs.private.Levels.{inside, nested}
use Rattle.asl_parse_stmt.proofs.Steps.{for_body_is, function_is, accessor_is, var_rest_is, name_statement_is, name_statement_rest_ends, if_statement_is, case_statement_is, for_statement_is, while_statement_is, repeat_statement_is, try_statement_is, targets_is}

pub var_rest_steps : {B : Type 0} (d : ℕ) (f : VarRest → B) (st : Cursor) → then f (reading d var_rest st)
    ≡ pick (starts (kind.Comma ∷ []) st.toks) (then f (reading d names_typed st))
    (pick (starts (kind.Colon ∷ []) st.toks) (then f (reading d typed_value st))
    (bind (reading d value st) (λ x end. Ok (f (Untyped x), end))))
unfolding then
var_rest_steps d f st = var_rest_is d f st

called_then : {B : Type 0} (d : ℕ) (st : Cursor) (k : (List Expr × List Expr) × Option (List PlacedSuffix × Expr) → Cursor → Outcome B) → bind (reading d called st) k
    ≡ bind (reading d call_arguments st) (λ x m. bind (reading d after_call m) (λ y m1. k (x, y) m1))
unfolding called
called_then d st k = simp bind_bind

pub name_statement_steps : (d : ℕ) (st : Cursor) → reading d name_statement st
    ≡ bind (reading d name st) (λ i m. pick (starts (kind.OpenBrace ∷ kind.OpenParen ∷ []) m.toks)
    (bind (reading d call_arguments m) (λ x m1. bind (reading d after_call m1) (λ y end. Ok (called_of i (span_to (ahead st.toks) end.last) x y, end))))
    (bind (reading d assigned m) (λ x end. Ok (rs.Simple (stm.Assign (span_to (ahead st.toks) end.last) (place_of i x.0) x.1), end))))
unfolding ending
name_statement_steps d st =
    name_statement_is d st ∙ bind_same (reading d name st) _ _ (λ i m.
    name_statement_rest_ends d (ahead st.toks) (name_statement_of i) m
    ∙ ap (λ a. pick (starts (kind.OpenBrace ∷ kind.OpenParen ∷ []) m.toks) a (bind (reading d assigned m) (λ x end. Ok (name_statement_of i (span_to (ahead st.toks) end.last) (inr x), end))))
    (called_then d m (λ x end. Ok (name_statement_of i (span_to (ahead st.toks) end.last) (inl x), end))))

-- ---- what a statement or a target holds, a level below it

inside_reads : {B : Type 0} (d : ℕ) (s : Sym) (st : Cursor) (k : Val s → Cursor → Outcome B) → bind (symbol d s st) k ≡ bind (inside d st) (λ n m. bind (reading n (rule s) m) k)
inside_reads zero s st k = refl
inside_reads (suc d) s st k = refl

nests : {B : Type 0} (d : ℕ) (kinds : Kinds) (s : Sym) (st : Cursor) (k : Val s → Cursor → Outcome B)
    → bind (run_opens kinds st.left st.toks) (λ t m. bind (symbol d s m) k) ≡ bind (nested d kinds st) (λ n m. bind (reading n (rule s) m) k)
unfolding nested
nests d kinds s st k = bind_same (run_opens kinds st.left st.toks) (λ t m. bind (symbol d s m) k) (λ t m. bind (inside d m) (λ n at. bind (reading n (rule s) at) k)) (λ t m. inside_reads d s m k)
    ∙ sym (bind_bind (run_opens kinds st.left st.toks) (λ t m. inside d m) (λ n m. bind (reading n (rule s) m) k))

pub if_statement_nests : (d : ℕ) (st : Cursor) → reading d if_statement st ≡ bind (nested d (kind.If ∷ []) st) (λ n m. bind (reading n if_body m) (λ x m1. Ok ((rs.If (span_to (ahead st.toks) m1.last) x.0 x.1 x.2 x.3), (record m1 { left = st.left }))))
if_statement_nests d st = if_statement_is d st ∙ nests d (kind.If ∷ []) IfBody st (λ x m1. Ok ((rs.If (span_to (ahead st.toks) m1.last) x.0 x.1 x.2 x.3), (record m1 { left = st.left })))

pub case_statement_nests : (d : ℕ) (st : Cursor) → reading d case_statement st ≡ bind (nested d (kind.Case ∷ []) st) (λ n m. bind (reading n case_body m) (λ x m1. Ok ((rs.Case (span_to (ahead st.toks) m1.last) x.0 x.1 x.2), (record m1 { left = st.left }))))
case_statement_nests d st = case_statement_is d st ∙ nests d (kind.Case ∷ []) CaseBody st (λ x m1. Ok ((rs.Case (span_to (ahead st.toks) m1.last) x.0 x.1 x.2), (record m1 { left = st.left })))

pub for_statement_nests : (d : ℕ) (st : Cursor) → reading d for_statement st ≡ bind (nested d (kind.For ∷ []) st) (λ n m. bind (reading n for_body m) (λ x m1. Ok ((rs.For (span_to (ahead st.toks) m1.last) x.0 x.1 x.2 x.3 x.4 x.5), (record m1 { left = st.left }))))
for_statement_nests d st = for_statement_is d st ∙ nests d (kind.For ∷ []) ForBody st (λ x m1. Ok ((rs.For (span_to (ahead st.toks) m1.last) x.0 x.1 x.2 x.3 x.4 x.5), (record m1 { left = st.left })))

pub while_statement_nests : (d : ℕ) (st : Cursor) → reading d while_statement st ≡ bind (nested d (kind.While ∷ []) st) (λ n m. bind (reading n while_body m) (λ x m1. Ok ((rs.While (span_to (ahead st.toks) m1.last) x.0 x.1 x.2), (record m1 { left = st.left }))))
while_statement_nests d st = while_statement_is d st ∙ nests d (kind.While ∷ []) WhileBody st (λ x m1. Ok ((rs.While (span_to (ahead st.toks) m1.last) x.0 x.1 x.2), (record m1 { left = st.left })))

pub repeat_statement_nests : (d : ℕ) (st : Cursor) → reading d repeat_statement st ≡ bind (nested d (kind.Repeat ∷ []) st) (λ n m. bind (reading n repeat_body m) (λ x m1. Ok ((rs.Repeat (span_to (ahead st.toks) m1.last) x.0 x.1 x.2), (record m1 { left = st.left }))))
repeat_statement_nests d st = repeat_statement_is d st ∙ nests d (kind.Repeat ∷ []) RepeatBody st (λ x m1. Ok ((rs.Repeat (span_to (ahead st.toks) m1.last) x.0 x.1 x.2), (record m1 { left = st.left })))

pub try_statement_nests : (d : ℕ) (st : Cursor) → reading d try_statement st ≡ bind (nested d (kind.Try ∷ []) st) (λ n m. bind (reading n try_body m) (λ x m1. Ok ((rs.Try (span_to (ahead st.toks) m1.last) x.0 x.1 x.2), (record m1 { left = st.left }))))
try_statement_nests d st = try_statement_is d st ∙ nests d (kind.Try ∷ []) TryBody st (λ x m1. Ok ((rs.Try (span_to (ahead st.toks) m1.last) x.0 x.1 x.2), (record m1 { left = st.left })))

targets_at : {B : Type 0} (d : ℕ) (st : Cursor) (k : List Target → Cursor → Outcome B) → bind (reading d target_parts st) k ≡ bind (reading d two_targets st) (λ x m. bind (run_tok (kind.CloseParen ∷ []) m m.toks) (λ t end. k x end))
unfolding target_parts
targets_at d st k = simp bind_bind

pub targets_nest : (d : ℕ) (st : Cursor) → reading d targets st ≡ bind (nested d (kind.OpenParen ∷ []) st) (λ n m. bind (reading n two_targets m) (λ x m1. bind (run_tok (kind.CloseParen ∷ []) m1 m1.toks) (λ t m2. Ok ((tg.Targets (span_to (ahead st.toks) m2.last) x), (record m2 { left = st.left })))))
targets_nest d st = targets_is d st ∙ nests d (kind.OpenParen ∷ []) TargetParts st (λ x m1. Ok ((tg.Targets (span_to (ahead st.toks) m1.last) x), (record m1 { left = st.left }))) ∙ bind_same (nested d (kind.OpenParen ∷ []) st) _ _ (λ n m. targets_at n m (λ x m1. Ok ((tg.Targets (span_to (ahead st.toks) m1.last) x), (record m1 { left = st.left }))))

-- ---- long rules by their heads

for_head_then : {B : Type 0} (d : ℕ) (st : Cursor) (k : Ident × Expr × Direction × Expr → Cursor → Outcome B) → bind (for_head d st) k
    ≡ bind (reading d name st) (λ i m. bind (run_tok (kind.Assign ∷ []) m m.toks) (λ t m1. bind (reading d expression m1) (λ x m2. bind (reading d direction m2) (λ y m3. bind (reading d expression m3) (λ z m4. k (i, x, y, z) m4)))))
unfolding for_head
for_head_then d st k = simp bind_bind

pub for_body_by : (d : ℕ) (st : Cursor) → reading d for_body st
    ≡ bind (for_head d st) (λ x m. bind (reading d loop_limit m) (λ y m1. bind (run_tok (kind.Do ∷ []) m1 m1.toks) (λ t m2. bind (reading d block m2) (λ z m3. bind (run_tok (kind.End ∷ []) m3 m3.toks) (λ t1 m4. bind (run_tok (kind.Semicolon ∷ []) m4 m4.toks) (λ t2 m5. Ok ((x.0, x.1, x.2, x.3, y, z), m5)))))))
for_body_by d st = for_body_is d st ∙ sym (for_head_then d st (λ x m. bind (reading d loop_limit m) (λ y m1. bind (run_tok (kind.Do ∷ []) m1 m1.toks) (λ t m2. bind (reading d block m2) (λ z m3. bind (run_tok (kind.End ∷ []) m3 m3.toks) (λ t1 m4. bind (run_tok (kind.Semicolon ∷ []) m4 m4.toks) (λ t2 m5. Ok ((x.0, x.1, x.2, x.3, y, z), m5))))))))

function_head_then : {B : Type 0} (d : ℕ) (st : Cursor) (k : Qualifier × Ident × List Param × List Formal × Option TypeExpr → Cursor → Outcome B) → bind (function_head d st) k
    ≡ bind (reading d qualifier st) (λ q m. bind (run_tok (kind.Func ∷ []) m m.toks) (λ t m1. bind (reading d name m1) (λ i m2. bind (reading d maybe_params m2) (λ x m3. bind (reading d formals m3) (λ y m4. bind (reading d result_type m4) (λ z m5. k (q, i, x, y, z) m5))))))
unfolding function_head
function_head_then d st k = simp bind_bind

pub function_by : (d : ℕ) (st : Cursor) → reading d function st
    ≡ bind (function_head d st) (λ x m. bind (reading d recursion_limit m) (λ y m1. bind (run_tok (kind.Begin ∷ []) m1 m1.toks) (λ t m2. bind (reading d block m2) (λ z m3. bind (run_tok (kind.End ∷ []) m3 m3.toks) (λ t1 m4. bind (run_tok (kind.Semicolon ∷ []) m4 m4.toks)
    (λ t2 m5. Ok (bo.Subprogram x.0 x.1 x.2 x.3 x.4 y z, m5)))))))
function_by d st = function_is d st ∙ sym (function_head_then d st (λ x m. bind (reading d recursion_limit m) (λ y m1. bind (run_tok (kind.Begin ∷ []) m1 m1.toks) (λ t m2. bind (reading d block m2) (λ z m3. bind (run_tok (kind.End ∷ []) m3 m3.toks) (λ t1 m4. bind (run_tok (kind.Semicolon ∷ []) m4 m4.toks)
    (λ t2 m5. Ok (bo.Subprogram x.0 x.1 x.2 x.3 x.4 y z, m5))))))))

accessor_head_then : {B : Type 0} (d : ℕ) (st : Cursor) (k : Ident × List Param × List Formal × Formal → Cursor → Outcome B) → bind (accessor_head d st) k
    ≡ bind (run_tok (kind.Accessor ∷ []) st st.toks) (λ t m. bind (reading d name m) (λ i m1. bind (reading d maybe_params m1) (λ x m2. bind (reading d formals m2) (λ y m3. bind (run_tok (kind.Access ∷ []) m3 m3.toks) (λ t1 m4. bind (reading d formal m4) (λ z m5. k (i, x, y, z) m5))))))
unfolding accessor_head
accessor_head_then d st k = simp bind_bind

pub accessor_by : (d : ℕ) (st : Cursor) → reading d accessor st
    ≡ bind (accessor_head d st) (λ x m. bind (run_tok (kind.Begin ∷ []) m m.toks) (λ t m1. bind (reading d getter m1) (λ y m2. bind (reading d setter m2) (λ z m3. bind (run_tok (kind.End ∷ []) m3 m3.toks) (λ t1 m4. bind (run_tok (kind.Semicolon ∷ []) m4 m4.toks)
    (λ t2 m5. Ok (bo.Accessor x.0 x.1 x.2 x.3 y.0 y.1 z, m5)))))))
accessor_by d st = accessor_is d st ∙ sym (accessor_head_then d st (λ x m. bind (run_tok (kind.Begin ∷ []) m m.toks) (λ t m1. bind (reading d getter m1) (λ y m2. bind (reading d setter m2) (λ z m3. bind (run_tok (kind.End ∷ []) m3 m3.toks) (λ t1 m4. bind (run_tok (kind.Semicolon ∷ []) m4 m4.toks)
    (λ t2 m5. Ok (bo.Accessor x.0 x.1 x.2 x.3 y.0 y.1 z, m5))))))))
