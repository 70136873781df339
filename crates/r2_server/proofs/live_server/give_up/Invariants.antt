use Rattle.std.specs.Prelude.{◌≡◌, take}
use Rattle.std.specs.List.{flat_map}
use Rattle.r2_server.specs.Notices.{feedback}
use Rattle.r2_server.specs.Timers.{due, given_up}
use Rattle.r2_server.proofs.live_server.give_up.Given as goal

abbrev pub invariant-timers : goal.invariant-timers
invariant-timers l = record {
  messages : l.unfinished ≡ given_up (due l.tick (take l.timer-index l.timers)) l.initial.unfinished;
  sends : l.sends ≡ flat_map (λ t. feedback l.me l.router t.rid) (due l.tick (take l.timer-index l.timers));
}
