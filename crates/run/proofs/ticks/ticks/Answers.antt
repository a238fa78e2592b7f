-- The ticks of a run: each goes on from the one before, or the run ends there. Assumes nothing.
use Rattle.std.proofs.Common.{refl, ap, ◌∙◌, add-one, arith}
use Rattle.run.proofs.BetweenTicks.{start, workable, full_holding, told_full, all_held, few_left, told_crowded, told_next, reached}
use Rattle.run.proofs.ticks.ticks.Goals as goal

pub loop-t-init : goal.loop-t-init
loop-t-init g c = record { lent = refl; between = start c.requires }

pub work-requires : goal.work-requires
work-requires g c = workable c.requires c.loop-t.invariant.between c.loop-t-test.true

pub returns-in-Err-Full-clause-run : goal.returns-in-Err-Full-clause-run
returns-in-Err-Full-clause-run g c =
    let G = c.loop-t.invariant.between in
    let listed = rw c.in-Err-Full.field-0-is at (c.in-Err-Full.ensures.told _ _ G.holding) in
    let held = full_holding c.requires G c.loop-t-test.true c.work.ensures listed in
    told_full c.requires G c.loop-t-test.true c.work.ensures listed _ (ap (λ l. l.written) c.end_all.ensures.rest) _ (c.end_all.ensures.ended _ _ _ held)

pub overflow_cast-result-in-Err-Crowded : goal.overflow_cast-result-in-Err-Crowded
overflow_cast-result-in-Err-Crowded g c =
    let G = c.loop-t.invariant.between in
    let listed = rw c.in-Err-Crowded.field-0-is at (c.in-Err-Crowded.ensures.told _ _ G.holding) in
    omega (arith, few_left c.requires G c.loop-t-test.true c.work.ensures listed.0 listed.2, ap (λ l. l.written) c.end_all-in-Err-Crowded.ensures.rest)

pub returns-in-Err-Crowded-clause-run : goal.returns-in-Err-Crowded-clause-run
returns-in-Err-Crowded-clause-run g c =
    let G = c.loop-t.invariant.between in
    let ended = c.end_all-in-Err-Crowded.ensures in
    let listed = rw c.in-Err-Crowded.field-0-is at (c.in-Err-Crowded.ensures.told _ _ G.holding) in
    let held = all_held c.requires G c.loop-t-test.true c.work.ensures listed.0 listed.2 in
    told_crowded c.requires G c.loop-t-test.true c.work.ensures listed.0 listed.2 (rw c.count-due.ensures at listed.1) _ (ap (λ l. l.written) ended.rest) _ (ended.ended _ _ _ held)

pub loop-t-preserved : goal.loop-t-preserved
loop-t-preserved g c =
    let G = c.loop-t.invariant.between in
    let listed = c.in-Ok.ensures.told _ _ G.holding in
    record {
      lent = c.list.ensures.lent ∙ c.loop-t.invariant.lent;
      between = rw add-one (told_next c.requires G c.loop-t-test.true c.work.ensures listed.0 listed.2 (rw c.count-due.ensures at listed.1));
    }

pub end_all-requires-2 : goal.end_all-requires-2
end_all-requires-2 g c = (c.loop-t.listing.written, (_, _, c.loop-t.invariant.between.holding))

pub returns-clause-run : goal.returns-clause-run
returns-clause-run g c =
    let G = c.loop-t.invariant.between in
    let ended = c.end_all-2.ensures in
    reached c.requires G c.loop-t-test.false _ (ap (λ l. l.written) ended.rest) _ (ended.ended _ _ _ G.holding)
