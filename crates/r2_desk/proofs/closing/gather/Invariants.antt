-- What the shares so far and the passes that are left have together stays, and there are no more parts than the ledgers have.
use Rattle.std.proofs.Common.{◌≡◌, length}
use Rattle.r2_desk.specs.Counts.{AreAtMost, amounts, plus, sums_made, times}
use Rattle.r2_desk.proofs.closing.gather.Given as goal

abbrev pub invariant-passes : goal.invariant-passes
invariant-passes g l =
    record {
      parts : plus l.shares.parts (times (length l.passes.items)) ≡ plus l.fn.shares.parts (times (length l.fn.passes.items));
      held : plus l.shares.held (sums_made l.passes.items) ≡ plus l.fn.shares.held (sums_made l.fn.passes.items);
      within : AreAtMost l.shares.parts (amounts g.T.Ledger.parts g.S.Ledger.parts g.A.Ledger.parts g.F.Ledger.parts g.W.Ledger.parts);
    }

abbrev pub decreases-passes : goal.decreases-passes
decreases-passes g l = length l.passes.items
