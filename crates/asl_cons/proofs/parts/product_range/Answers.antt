use Rattle.std.proofs.Common.{◌≡◌, ◌∙◌, sym, ap, rules}
use Rattle.std.specs.Prelude.{Some, None}
use Rattle.std.proofs.Math.IntN.{◌*ℤ◌}
use Rattle.std.proofs.lemmas.Int.{to_z-of_z}
use mir.Syntax.{w128}
use mir.Val.{SFits}
use Rattle.asl_cons.specs.Arithmetic.{exact}
use Rattle.asl_cons.proofs.ExactResults.{first_out, second_out, third_out, fourth_out, all_in}
use Rattle.asl_cons.proofs.parts.product_range.Goals as goal

pub returns-in_err-a : goal.returns-in_err-a
returns-in_err-a c =
    let f : SFits w128 c.args.r.0 = search rules in
    let g : SFits w128 c.args.r.1 = search rules in
    let h : SFits w128 c.args.s.0 = search rules in
    let k : SFits w128 c.args.s.1 = search rules in
    let e : None ≡ exact (c.args.r.0 *ℤ c.args.s.0) = simp to_z-of_z at c.in_err-a.ensures in
    c.from_residual.ensures ∙ first_out (c.args.r.0 *ℤ c.args.s.0) (c.args.r.0 *ℤ c.args.s.1) (c.args.r.1 *ℤ c.args.s.0) (c.args.r.1 *ℤ c.args.s.1) (sym e)

pub returns-in_err-b : goal.returns-in_err-b
returns-in_err-b c =
    let f : SFits w128 c.args.r.0 = search rules in
    let g : SFits w128 c.args.r.1 = search rules in
    let h : SFits w128 c.args.s.0 = search rules in
    let k : SFits w128 c.args.s.1 = search rules in
    let e : None ≡ exact (c.args.r.0 *ℤ c.args.s.1) = simp to_z-of_z at c.in_err-b.ensures in
    c.from_residual-in_err-b.ensures ∙ second_out (c.args.r.0 *ℤ c.args.s.0) (c.args.r.0 *ℤ c.args.s.1) (c.args.r.1 *ℤ c.args.s.0) (c.args.r.1 *ℤ c.args.s.1) (sym e)

pub returns-in_err-c : goal.returns-in_err-c
returns-in_err-c c =
    let f : SFits w128 c.args.r.0 = search rules in
    let g : SFits w128 c.args.r.1 = search rules in
    let h : SFits w128 c.args.s.0 = search rules in
    let k : SFits w128 c.args.s.1 = search rules in
    let e : None ≡ exact (c.args.r.1 *ℤ c.args.s.0) = simp to_z-of_z at c.in_err-c.ensures in
    c.from_residual-in_err-c.ensures ∙ third_out (c.args.r.0 *ℤ c.args.s.0) (c.args.r.0 *ℤ c.args.s.1) (c.args.r.1 *ℤ c.args.s.0) (c.args.r.1 *ℤ c.args.s.1) (sym e)

pub returns-in_err-d : goal.returns-in_err-d
returns-in_err-d c =
    let f : SFits w128 c.args.r.0 = search rules in
    let g : SFits w128 c.args.r.1 = search rules in
    let h : SFits w128 c.args.s.0 = search rules in
    let k : SFits w128 c.args.s.1 = search rules in
    let e : None ≡ exact (c.args.r.1 *ℤ c.args.s.1) = simp to_z-of_z at c.in_err-d.ensures in
    c.from_residual-in_err-d.ensures ∙ fourth_out (c.args.r.0 *ℤ c.args.s.0) (c.args.r.0 *ℤ c.args.s.1) (c.args.r.1 *ℤ c.args.s.0) (c.args.r.1 *ℤ c.args.s.1) (sym e)

pub returns : goal.returns
returns c =
    let f : SFits w128 c.args.r.0 = search rules in
    let g : SFits w128 c.args.r.1 = search rules in
    let h : SFits w128 c.args.s.0 = search rules in
    let k : SFits w128 c.args.s.1 = search rules in
    let fa : SFits w128 c.in_ok-a.a = search rules in
    let fb : SFits w128 c.in_ok-b.b = search rules in
    let fc : SFits w128 c.in_ok-c.c = search rules in
    let fd : SFits w128 c.in_ok-d.d = search rules in
    let fl : SFits w128 c.least.result = record { sfits = c.least.type_inv } in
    let fm : SFits w128 c.most.result = record { sfits = c.most.type_inv } in
    let ea : Some c.in_ok-a.a ≡ exact (c.args.r.0 *ℤ c.args.s.0) = simp to_z-of_z at c.in_ok-a.ensures in
    let eb : Some c.in_ok-b.b ≡ exact (c.args.r.0 *ℤ c.args.s.1) = simp to_z-of_z at c.in_ok-b.ensures in
    let ec : Some c.in_ok-c.c ≡ exact (c.args.r.1 *ℤ c.args.s.0) = simp to_z-of_z at c.in_ok-c.ensures in
    let ed : Some c.in_ok-d.d ≡ exact (c.args.r.1 *ℤ c.args.s.1) = simp to_z-of_z at c.in_ok-d.ensures in
    let i = simp to_z-of_z at c.integers.ensures in
    ap (λ p. Some p) i
    ∙ all_in (c.args.r.0 *ℤ c.args.s.0) (c.args.r.0 *ℤ c.args.s.1) (c.args.r.1 *ℤ c.args.s.0) (c.args.r.1 *ℤ c.args.s.1) c.in_ok-a.a c.in_ok-b.b c.in_ok-c.c c.in_ok-d.d c.least.result c.most.result (sym ea) (sym eb) (sym ec) (sym ed) (simp to_z-of_z at c.least.ensures) (simp to_z-of_z at c.most.ensures) fl fm
