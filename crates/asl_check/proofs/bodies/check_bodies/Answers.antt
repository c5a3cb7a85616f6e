use Rattle.std.proofs.Common.{rules, arith, ◌≡◌, map, drop, ◌∷◌, ◌++◌, [], Ok, ◌+◌, ◌∙◌, ap, sym, Bor, List}
use Rattle.std.proofs.lemmas.List.{map-append}
use Rattle.asl_syn.specs.declared.tree.Func.{Func}
use Rattle.asl_rules.specs.Faults.{◌>>=◌}
use Rattle.asl_rules.specs.declarations.Programs.{body_rule, bodies_rule}
use Rattle.asl_rules.specs.declarations.Scopes.{Signature}
use Rattle.asl_tree.specs.Funcs.{func_of}
use Rattle.asl_decl.specs.Heads.{head_of, heads_of}
use Rattle.asl_blocks.proofs.Chains.{next_of}
use Rattle.asl_check.proofs.BodyTurns.{bodies_loop}
use Rattle.asl_check.proofs.bodies.check_bodies.Goals as goal

pub loop-f-preserved : goal.loop-f-preserved
loop-f-preserved c = record {
  same = search rules;
  rest = λ t suits.
      let f : Func = c.f-item.result.now in
      let s : Signature = c.in-Some.signature.now in
      let fs : List (Bor Func) = c.args.funcs.now in
      let ss : List Signature = c.in-Some.more.now in
      let judged : body_rule t c.args.subs.now (head_of c.args.names.now f s) ≡ Ok (func_of c.in_ok-check_body.field-0) = search rules in
      let pushed : map func_of c.push.new.self ≡ map func_of c.loop-f.trees ++ func_of c.in_ok-check_body.field-0 ∷ [] =
      ap (map func_of) c.in_ok-push.ensures.ok ∙ map-append func_of c.loop-f.trees (c.in_ok-check_body.field-0 ∷ []) in
      let next : drop c.loop-f.f-index fs ≡ c.f-item.result ∷ drop (c.loop-f.f-index + 1) fs =
      next_of fs c.loop-f.f-index c.f-item.result (omega (arith, c.loop-f-test.true)) c.f-item.is in
      bodies_loop t c.args.subs.now c.args.names.now (map (λ (b : Bor Func). b.now) (drop (c.loop-f.f-index + 1) fs)) ss f s
      (map func_of c.loop-f.trees) (map func_of c.push.new.self) (func_of c.in_ok-check_body.field-0) _ judged pushed
      (ap (λ bs. bodies_rule t c.args.subs.now (heads_of c.args.names.now (map (λ (b : Bor Func). b.now) bs) (s ∷ ss)) >>= λ xs. Ok (map func_of c.loop-f.trees ++ xs)) (sym next)
      ∙ ap (λ l. bodies_rule t c.args.subs.now (heads_of c.args.names.now (map (λ (b : Bor Func). b.now) (drop c.loop-f.f-index fs)) l) >>= λ xs. Ok (map func_of c.loop-f.trees ++ xs)) (sym c.in-Some.ensures.cases.0)
      ∙ c.loop-f.invariant.rest t suits);
}
