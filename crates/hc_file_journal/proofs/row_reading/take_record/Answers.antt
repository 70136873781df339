use Rattle.std.proofs.Common.{◌≡◌, ◌++◌, IfSome, Err, ap, subst}
use Rattle.hc_log.specs.Ranges.{IsInRange}
use Rattle.hc_file_journal.specs.File.{ReadsBack, framed}
use Rattle.hc_file_journal.proofs.Frames.{not_next}
use Rattle.hc_file_journal.proofs.row_reading.take_record.Goals as goal

pub returns-in-Err-Unfit-clause-none : goal.returns-in-Err-Unfit-clause-none
returns-in-Err-Unfit-clause-none c = λ none.
    not_next c.args.durable.now.state c.args.bytes.now c.in-Some.rest.now c.in-Some.r (subst (λ o. IfSome o (λ p. c.args.bytes.now ≡ framed p.0 ++ p.1.now)) c.in-Some.is c.in_ok-r.ensures.found)
    (subst (λ o. IfSome o (λ p. IsInRange p.0)) c.in-Some.is c.in_ok-r.ensures.in_range) (subst (λ o. IfSome o (λ p. ReadsBack p.0)) c.in-Some.is c.in_ok-r.ensures.read)
    (c.in-Err-Unfit.ensures.unfit.0 (ap Err c.in-Err-Unfit.field-0-is))
