use Rattle.std.proofs.Common.{◌∙◌, rules}
use Rattle.asl_cmd.proofs.ReadingLemmas.{IfSome-from, IfSome-at, read_more_by, read_long_by, read_end, short_more, grown_within, next_within, all_within}
use Rattle.asl_cmd.proofs.reading.read_all.Goals as goal

pub returns-in-TooLong-clause-reading : goal.returns-in-TooLong-clause-reading
returns-in-TooLong-clause-reading g c =
    IfSome-from _ _ (λ held told.
    let came = IfSome-at _ _ held (c.loop-name.invariant.held ∙ told) c.in_ok-source.ensures.one in
    read_long_by held c.args.names.now _ c.name-item.result c.loop-name.sources.items _ _ _ _ c.loop-name-test.true c.name-item.is c.as_str.ensures.value c.in-TooLong.is came (c.loop-name.invariant.reading held told))

pub loop-name-preserved : goal.loop-name-preserved
loop-name-preserved g c = record {
  reading = λ held told.
      let came = IfSome-at _ _ held (c.loop-name.invariant.held ∙ told) c.in_ok-source.ensures.one in
      read_more_by held c.args.names.now _ c.name-item.result c.loop-name.sources.items _ _ _ _ _ c.loop-name-test.true c.name-item.is c.in_ok-push-in-File.ensures.items c.as_str.ensures.value c.in-File.is came (c.loop-name.invariant.reading held told);
  short = short_more _ _ _ _ c.in_ok-push-in-File.ensures.items c.in-File.is c.in_ok-source.ensures.short c.loop-name.invariant.short;
  few = grown_within _ _ _ _ c.in_ok-push-in-File.ensures.items c.loop-name.invariant.few;
  within = next_within _ _ c.loop-name-test.true;
  count = search rules;
  held = c.in_ok-source.ensures.same_held ∙ c.loop-name.invariant.held;
  sure = c.in_ok-source.ensures.same_sure ∙ c.loop-name.invariant.sure;
}

pub returns-clause-reading : goal.returns-clause-reading
returns-clause-reading g c =
    IfSome-from _ _ (λ held told. read_end held c.args.names.now _ c.loop-name.sources.items _ c.loop-name-test.false (c.loop-name.invariant.reading held told))

pub returns-clause-short : goal.returns-clause-short
returns-clause-short g c = (all_within _ _ _ c.loop-name.invariant.few c.loop-name.invariant.within c.requires, c.loop-name.invariant.short)
