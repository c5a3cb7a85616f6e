use Rattle.std.proofs.Common.{◌≡◌, ◌<◌, ◌∙◌, Ok, Some, ap, length, get_or, of_z, refl, rules, subst, sym, to_z}
use Rattle.std.specs.Int.{w128}
use Rattle.asl_rules.specs.values.Operators.{plain_bits}
use Rattle.asl_rules.specs.values.Values.{bool, int}
use Rattle.asl_tree.specs.Acts.{act_of}
use Rattle.asl_tree.specs.View.{note_view}
use Rattle.asl_tree.specs.private.Room.{FitsAct}
use Rattle.asl_value.specs.declared.value.Value.TheVariants as variants
use Rattle.asl_value.specs.View.{value_of}
use Rattle.asl_branches.specs.declared.stop.Exit.TheVariants as exit
use Rattle.asl_branches.specs.Meets.{Answers, Executes, at}
use Rattle.asl_branches.specs.View.{core_of, cutting_of, meaning_of, meter_of, room_of}
use Rattle.asl_branches.proofs.Listing.{act_next}
use Rattle.asl_run.specs.private.AtOnce.{found}
use Rattle.asl_run.proofs.ActsAtOnce.{untouched}
use Rattle.asl_run.proofs.AtOnce.{answered, truth_there}
use Rattle.asl_run.proofs.Entries.{act_fits, acts_fit}
use Rattle.asl_run.proofs.Turning.{int_there}
use Rattle.asl_run.proofs.Viewed.{read_is}
use Rattle.asl_run.proofs.knot.+run.Goals as goal

pub exec_all-loop-s-preserved : goal.exec_all-loop-s-preserved
exec_all-loop-s-preserved g t c =
    let here : c.s-item.result ≡ get_or c.args.list.now c.loop-s.s-index c.s-item.result = search rules in
    let within : c.loop-s.s-index < length c.args.list.now = search rules in
    let ended : Executes (Ok exit.Normal) c.args.here c.s-item.result (at g.K.Sink c.loop-s.run c.loop-s.sink)
    (at g.K.Sink c.exec.new.run c.exec.new.sink) =
    subst (λ x. Executes (Ok x) c.args.here c.s-item.result (at g.K.Sink c.loop-s.run c.loop-s.sink)
    (at g.K.Sink c.exec.new.run c.exec.new.sink)) c.in-Normal.is c.in_ok-exec.ensures in
    record {
      turn = act_next c.args.here c.args.list.now c.loop-s.s-index c.s-item.result _ _ _ _ within here ended c.loop-s.invariant.turn;
      fits = acts_fit c.args.here c.args.list.now c.loop-s.s-index c.s-item.result exit.Normal _ _ within here ended c.loop-s.invariant.fits;
    }

pub exec_all-exec-requires : goal.exec_all-exec-requires
exec_all-exec-requires g t c =
    let here : c.s-item.result ≡ get_or c.args.list.now c.loop-s.s-index c.s-item.result = search rules in
    let within : c.loop-s.s-index < length c.args.list.now = search rules in
    let fits : FitsAct (room_of c.loop-s.run) (act_of c.s-item.result) =
    (act_fits (room_of c.loop-s.run) c.args.list.now c.loop-s.s-index c.s-item.result within here c.loop-s.invariant.fits).0 in
    search (rules, fits)

pub eval-returns-in-Read : goal.eval-returns-in-Read
eval-returns-in-Read g t c =
    let h = c.args.here in
    let a = at g.K.Sink c.args.run.now c.args.sink.now in
    let a1 = at g.K.Sink c.enter_read.new.run c.args.sink.now in
    subst (λ e. Answers (Some 0) value_of c.enter_read.result
    ((meaning_of h.funcs.now h.depth).expr e (core_of a.run) (meter_of a.run a.told))
    ((cutting_of h.funcs.now h.depth).expr e (core_of a.run) (meter_of a.run a.told)) a a1)
    (sym (read_is c.args.e.now c.in-Read.note c.in-Read.slot c.in-Read.is))
    (c.enter_read.ensures (note_view c.in-Read.note) a.told a.faults a.full refl)

pub eval-returns-in-Integer : goal.eval-returns-in-Integer
eval-returns-in-Integer g t c = record {
  meets =
      let kept : to_z w128 (of_z w128 c.in-Integer.z) ≡ c.in-Integer.z = search rules in
      answered c.evaluated.result (int c.in-Integer.z) (value_of (variants.Int (to_z w128 (of_z w128 c.in-Integer.z))))
      c.args.here.funcs.now c.args.here.depth c.args.e.now c.args.run.now c.evaluated.new.left
      (g.K.Sink.written c.args.sink.now)
      (ap found c.in-Integer.is) (ap (λ z. value_of (variants.Int z)) kept ∙ int_there c.in-Integer.z) c.evaluated.ensures;
  counts = search rules;
  same_full = search rules;
  keeps = search rules;
  grows = search rules;
}

pub eval-returns-in-Truth : goal.eval-returns-in-Truth
eval-returns-in-Truth g t c = record {
  meets =
      answered c.evaluated.result (bool c.in-Truth.b) (value_of (variants.Bool c.in-Truth.b)) c.args.here.funcs.now
      c.args.here.depth c.args.e.now c.args.run.now c.evaluated.new.left (g.K.Sink.written c.args.sink.now)
      (ap found c.in-Truth.is) (truth_there c.in-Truth.b) c.evaluated.ensures;
  counts = search rules;
  same_full = search rules;
  keeps = search rules;
  grows = search rules;
}

pub eval-returns-in-Bits : goal.eval-returns-in-Bits
eval-returns-in-Bits g t c = record {
  meets =
      answered c.evaluated.result (plain_bits c.in-Bits.bits) (value_of c.plain_bits.result) c.args.here.funcs.now
      c.args.here.depth c.args.e.now c.args.run.now c.evaluated.new.left (g.K.Sink.written c.args.sink.now)
      (ap found c.in-Bits.is) c.plain_bits.ensures c.evaluated.ensures;
  counts = search rules;
  same_full = search rules;
  keeps = search rules;
  grows = search rules;
}

pub exec-returns-in-Some : goal.exec-returns-in-Some
exec-returns-in-Some g t c = record {
  meets =
      c.in-Some.ensures.meets c.args.here.funcs.now (g.K.Sink.written c.args.sink.now);
  counts = search rules;
  same_full = search rules;
  keeps = search rules;
  grows = search rules;
}

pub exec-enter_stmt-requires : goal.exec-enter_stmt-requires
exec-enter_stmt-requires g t c =
    let same = untouched c.args.here.funcs.now c.args.here.depth c.executed.result c.args.s.now c.args.run.now c.executed.new.run
    c.in-None.is (c.executed.ensures.meets c.args.here.funcs.now) in
    let fits : FitsAct (room_of c.executed.new.run) (act_of c.args.s.now) =
    subst (λ s. FitsAct (room_of s) (act_of c.args.s.now)) (sym same) c.requires.room in
    search (rules, fits)

pub exec-returns-in-None : goal.exec-returns-in-None
exec-returns-in-None g t c =
    let same = untouched c.args.here.funcs.now c.args.here.depth c.executed.result c.args.s.now c.args.run.now c.executed.new.run
    c.in-None.is (c.executed.ensures.meets c.args.here.funcs.now) in
    subst (λ s. Executes c.enter_stmt.result c.args.here c.args.s.now (at g.K.Sink s c.args.sink.now)
    (at g.K.Sink c.enter_stmt.new.run c.enter_stmt.new.sink)) same c.enter_stmt.ensures
