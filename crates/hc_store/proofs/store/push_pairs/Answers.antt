use Rattle.std.proofs.Common.{◌≡◌, ◌<◌, ◌+◌, ◌-◌, suc, true, false, ℕ, List, ◌++◌, if◌then◌else◌, nat_le, length, ap, subst, ◌∙◌, take, arith}
use Rattle.std.specs.List.{flat_map}
use Rattle.hc_store.specs.Service.{most_scanned, pair_bytes, fitting}
use Rattle.hc_store.proofs.Scans.{IsAhead, ahead-at-first, whole-at-limit, whole-at-end, whole-when-full, ahead-more}
use Rattle.hc_store.proofs.store.push_pairs.Goals as goal

pub pairs-init : goal.pairs-init
pairs-init c = (tt, tt, ahead-at-first _ _ _ c.requires)

pub returns-then-left-eq0 : goal.returns-then-left-eq0
returns-then-left-eq0 c =
    let whole = whole-at-limit c.pairs.invariant.2 c.if-left-eq0.true in
    let given = c.into_iter-key-iterator.ensures.into_iter_gives in
    cc (whole, given)

pub returns-then-not-branch : goal.returns-then-not-branch
returns-then-not-branch c =
    let steps = c.in-Some.ensures.steps in
    let ahead = subst (λ (ps : List (List ℕ × List ℕ)). IsAhead c.pairs.out.items c.pairs.left ps (flat_map pair_bytes (fitting most_scanned (take c.args.limit c.into_iter-key-iterator.result)))) steps c.pairs.invariant.2 in
    let some : 0 < c.pairs.left = omega (arith, c.if-left-eq0.false) in
    let full : nat_le (length c.pairs.out.items + length (pair_bytes (c.in-Some.key.now, c.in-Some.value.now))) most_scanned ≡ false = cc (c.in_ok-push_pair.ensures.fits, c.if-not-branch.true) in
    let whole = whole-when-full ahead some full in
    let given = c.into_iter-key-iterator.ensures.into_iter_gives in
    let kept = c.in_ok-push_pair.ensures.bytes ∙ ap (λ b. if b then c.pairs.out.items ++ pair_bytes (c.in-Some.key.now, c.in-Some.value.now) else c.pairs.out.items) c.if-not-branch.true in
    cc (whole, given, kept)

pub pairs-preserved : goal.pairs-preserved
pairs-preserved c =
    let steps = c.in-Some.ensures.steps in
    let ahead = subst (λ (ps : List (List ℕ × List ℕ)). IsAhead c.pairs.out.items c.pairs.left ps (flat_map pair_bytes (fitting most_scanned (take c.args.limit c.into_iter-key-iterator.result)))) steps c.pairs.invariant.2 in
    let left : c.pairs.left ≡ suc (c.pairs.left - 1) = omega (arith, c.if-left-eq0.false) in
    let fits : nat_le (length c.pairs.out.items + length (pair_bytes (c.in-Some.key.now, c.in-Some.value.now))) most_scanned ≡ true = cc (c.in_ok-push_pair.ensures.fits, c.if-not-branch.false) in
    let more = c.in_ok-push_pair.ensures.bytes ∙ ap (λ b. if b then c.pairs.out.items ++ pair_bytes (c.in-Some.key.now, c.in-Some.value.now) else c.pairs.out.items) c.if-not-branch.false in
    (tt, tt, ahead-more ahead left fits more)

pub returns : goal.returns
returns c =
    let steps = c.in-None.ensures.steps in
    let ahead = subst (λ (ps : List (List ℕ × List ℕ)). IsAhead c.pairs.out.items c.pairs.left ps (flat_map pair_bytes (fitting most_scanned (take c.args.limit c.into_iter-key-iterator.result)))) steps.0 c.pairs.invariant.2 in
    let whole = whole-at-end ahead in
    let given = c.into_iter-key-iterator.ensures.into_iter_gives in
    cc (whole, given)
