use Rattle.hc_store.proofs.Fronts.{a_scan_is_the_longest_front}
use Rattle.hc_store.proofs.laws.a_scan_is_the_longest_front.Goals as goal

pub returns : goal.returns
returns c = a_scan_is_the_longest_front
