-- What the words mean is within the limits of the calls.
use Rattle.std.proofs.Common.{None, map}
use Rattle.std.specs.String.{string_bytes}
use Rattle.hc_tops.proofs.Meanings.{means_within, ran-meant}
use Rattle.hc_tops.proofs.top.run_plain.Goals as goal

pub run_plain_meant-status-requires-clause-within : goal.run_plain_meant-status-requires-clause-within
run_plain_meant-status-requires-clause-within g c = means_within (map (λ w. string_bytes w) c.args.words.now) c.in-Ok.meant c.in-Ok.ensures.found

pub returns-clause-ran : goal.returns-clause-ran
returns-clause-ran g c =
    ran-meant _ c.in-Ok.meant _ _ _ _ _ (c.in-Ok.ensures.found, c.is_plain.ensures.0 c.if-not-is_plain.false) (λ x means. c.in-Ok.ensures.only x means.0) (c.run_plain_meant-status.ensures.did None)
    c.run_plain_meant-status.ensures.well c.run_plain_meant-status.ensures.known c.run_plain_meant-status.ensures.caused c.run_plain_meant-status.ensures.steady
