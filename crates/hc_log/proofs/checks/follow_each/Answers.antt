use Rattle.std.proofs.Common.{◌≡◌, ◌++◌, take, refl}
use Rattle.std.proofs.lemmas.List.{take_all}
use Rattle.hc_log.specs.Log.{FollowEach, MayFollow}
use Rattle.hc_log.proofs.CheckedEntries.{counted_more, joined_more, follow_more}
use Rattle.hc_log.proofs.checks.follow_each.Goals as goal

pub entries-preserved : goal.entries-preserved
entries-preserved c =
    let kept = take c.args.keep c.args.log.now in
    let entries = c.args.entries.now in
    let front = kept ++ take c.entries.i entries in
    let s = c.index-entries-i.result in
    let may : MayFollow front s = c.may_follow.ensures.0 c.if-not-may_follow.false in
    let joined = joined_more kept entries c.entries.i s c.entries-test.true c.index-entries-i.is in
    record {
      counted = rw joined (counted_more front s c.entries.totals c.with-totals.result c.entries.invariant.counted c.with-totals.ensures);
      limits = rw joined may.limits;
      each = follow_more kept entries c.entries.i s c.entries-test.true c.index-entries-i.is c.entries.invariant.each may;
    }

pub returns : goal.returns
returns c =
    let all : take c.entries.i c.args.entries.now ≡ c.args.entries.now = take_all c.entries.i c.args.entries.now c.entries-test.false in
    let each : FollowEach (take c.args.keep c.args.log.now) c.args.entries.now = rw all at c.entries.invariant.each in
    ((λ t. each), (λ given. refl))
