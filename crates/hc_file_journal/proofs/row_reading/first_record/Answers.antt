use Rattle.std.proofs.Common.{subst}
use Rattle.hc_journal.specs.declared.record_fault.RecordFault.TheVariants.{Version, Short, Range, Extra}
use Rattle.hc_file_journal.proofs.Frames.{Says, found_first, no_number, not_read, too_few, too_long}
use Rattle.hc_file_journal.proofs.row_reading.first_record.Goals as goal

pub returns-then-len-gt-MOST_FRAME-clause-none : goal.returns-then-len-gt-MOST_FRAME-clause-none
returns-then-len-gt-MOST_FRAME-clause-none c = λ none r more in_range reads.
    too_long c.args.bytes.now c.in-Some.rest.now c.in-Some.len r more c.in-Some.ensures.only c.if-len-gt-MOST_FRAME.true in_range

pub returns-then-len-rest-clause-none : goal.returns-then-len-rest-clause-none
returns-then-len-rest-clause-none c = λ none r more in_range reads.
    too_few c.args.bytes.now c.in-Some.rest.now c.in-Some.len r more c.in-Some.ensures.only c.if-len-rest.true in_range

pub returns-in-Ok-clause-found : goal.returns-in-Ok-clause-found
returns-in-Ok-clause-found c =
    found_first c.args.bytes.now c.in-Some.rest.now c.split_at.result.0.now c.split_at.result.1.now c.in-Some.len c.in-Ok.r c.in-Some.ensures.found c.if-len-rest.false c.split_at.ensures.front
    c.split_at.ensures.back c.in-Ok.ensures.spelled

pub returns-in-Err-Version-clause-none : goal.returns-in-Err-Version-clause-none
returns-in-Err-Version-clause-none c = λ none r more in_range reads.
    not_read c.args.bytes.now c.in-Some.rest.now c.split_at.result.0.now c.in-Some.len r more Version c.in-Some.ensures.only c.split_at.ensures.front (subst (Says c.split_at.result.0.now) c.in-Err-Version.field-0-is c.in-Err-Version.ensures.read) in_range reads

pub returns-in-Err-Short-clause-none : goal.returns-in-Err-Short-clause-none
returns-in-Err-Short-clause-none c = λ none r more in_range reads.
    not_read c.args.bytes.now c.in-Some.rest.now c.split_at.result.0.now c.in-Some.len r more Short c.in-Some.ensures.only c.split_at.ensures.front (subst (Says c.split_at.result.0.now) c.in-Err-Short.field-0-is c.in-Err-Short.ensures.read) in_range reads

pub returns-in-Err-Range-clause-none : goal.returns-in-Err-Range-clause-none
returns-in-Err-Range-clause-none c = λ none r more in_range reads.
    not_read c.args.bytes.now c.in-Some.rest.now c.split_at.result.0.now c.in-Some.len r more Range c.in-Some.ensures.only c.split_at.ensures.front (subst (Says c.split_at.result.0.now) c.in-Err-Range.field-0-is c.in-Err-Range.ensures.read) in_range reads

pub returns-in-Err-Extra-clause-none : goal.returns-in-Err-Extra-clause-none
returns-in-Err-Extra-clause-none c = λ none r more in_range reads.
    not_read c.args.bytes.now c.in-Some.rest.now c.split_at.result.0.now c.in-Some.len r more Extra c.in-Some.ensures.only c.split_at.ensures.front (subst (Says c.split_at.result.0.now) c.in-Err-Extra.field-0-is c.in-Err-Extra.ensures.read) in_range reads

pub returns-in-None-clause-none : goal.returns-in-None-clause-none
returns-in-None-clause-none c = λ none r more in_range reads. no_number c.args.bytes.now r more c.in-None.ensures.enough
