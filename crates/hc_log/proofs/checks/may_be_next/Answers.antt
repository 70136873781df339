use Rattle.std.proofs.Common.{◌≤◌, take, sym, subst, arith}
use Rattle.std.specs.List.{All}
use Rattle.hc_log.specs.declared.stored.Stored.{Stored}
use Rattle.hc_log.specs.Log.{FollowEach}
use Rattle.hc_log.proofs.Logs.{IsLog-take, IsLog-limits}
use Rattle.hc_log.proofs.checks.may_be_next.Goals as goal

pub follow_each-requires-clause-limits : goal.follow_each-requires-clause-limits
follow_each-requires-clause-limits c = IsLog-limits _ (IsLog-take c.args.r.now.keep c.args.log.now c.requires)

pub returns : goal.returns
returns c =
    let r = c.args.r.now in
    let kept = take r.keep c.args.log.now in
    let set = c.is_term.ensures.0 c.if-not-is_term.false in
    let goes_on = c.continues.ensures.0 c.if-not-continues.false in
    let limits = IsLog-limits c.args.log.now c.requires in
    let terms : All (λ (s : Stored). s.entry.term ≤ r.term) r.entries =
    subst (λ es. All (λ (s : Stored). s.entry.term ≤ r.term) es) c.as_slice.ensures (c.have_terms_up_to.ensures.0 c.if-not-have_terms_up_to.false) in (
      (λ t.
          let each : FollowEach kept r.entries = subst (λ es. FollowEach kept es) c.as_slice-2.ensures (c.follow_each.ensures.0 t) in
          record {
            in_range =
                record {
                  term_is_set = set.0;
                  term_fits = set.1;
                  vote = c.is_member.ensures.0 c.if-not-is_member.false;
                  keep = omega (arith, limits.entries, c.if-r-last.false, c.last.ensures.index);
                  count = omega (arith, c.if-len-from.false, c.len.ensures, c.from.ensures);
                  entries = λ i s h. (each i s h).stored;
                };
            term = goes_on.0;
            vote = goes_on.1;
            keep = omega (arith, c.if-r-last.false, c.last.ensures.index);
            entries = each;
            terms = terms;
          }),
      (λ next. c.follow_each.ensures.1 (subst (λ es. FollowEach kept es) (sym c.as_slice-2.ensures) next.entries)),
    )
