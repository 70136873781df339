-- Each worker that is left has a part of each ledger in the rest, and the rest holds nothing but the slots before the first.
use Rattle.std.proofs.Common.{◌≡◌, ◌-◌}
use Rattle.r2_desk.specs.Counts.{amounts, times}
use Rattle.r2_desk.specs.Made.{first_slots, fresh_passes}
use Rattle.r2_desk.proofs.making.deal.Given as goal

abbrev pub invariant-workers : goal.invariant-workers
invariant-workers g l =
    record {
      parts : l.rest.parts ≡ times (l.workers - l.number);
      held : l.rest.held ≡ amounts 0 (first_slots l.slots l.number) 0 0 0;
      passes : l.passes.items ≡ fresh_passes l.slots l.number;
    }
