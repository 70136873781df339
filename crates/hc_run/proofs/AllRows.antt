-- Each row is a list of rules.
use Rattle.hc_message.specs.declared.msg.Msg.TheVariants.{VoteReq, Vote, Order, Ack, Nack, AggCommit, RecoverAsk, RecoverBody}
use Rattle.std.proofs.Common.{refl}
use Rattle.hc_member.specs.declared.heard.Heard.TheVariants.{Nothing, Whole, Told, Recovered, Time}
use Rattle.hc_member.specs.Turn.{row}
use Rattle.hc_run.specs.RowLaws.{RowsAreRules}
use Rattle.hc_run.proofs.BodyRows.{recovery_rows}
use Rattle.hc_run.proofs.Common.{nothing-row}
use Rattle.hc_run.proofs.OrderRows.{order_rows}
use Rattle.hc_run.proofs.ReportRows.{ack_rows, aggregate_rows, nack_rows}
use Rattle.hc_run.proofs.RequestRows.{quiet_rows, request_rows}
use Rattle.hc_run.proofs.TickRows.{tick_rows}
use Rattle.hc_run.proofs.VoteRows.{vote_request_rows, vote_rows}

pub all_rows : RowsAreRules
unfolding row
all_rows Nothing = quiet_rows
all_rows (Whole r) = request_rows r
all_rows (Told from (VoteReq a b c d)) = vote_request_rows from a b c d
all_rows (Told from (Vote a b c)) = vote_rows from a b c
all_rows (Told from (Order a b c d e f g h)) = order_rows from a b c d e f g h
all_rows (Told from (Ack a b c d)) = ack_rows from a b c d
all_rows (Told from (Nack a b c)) = nack_rows from a b c
all_rows (Told from (AggCommit a b)) = aggregate_rows from a b
all_rows (Told from (RecoverAsk a)) = λ s w m h. nothing-row s w m (Told from (RecoverAsk a)) h refl
all_rows (Told from (RecoverBody a b)) = λ s w m h. nothing-row s w m (Told from (RecoverBody a b)) h refl
all_rows (Recovered from rid message) = recovery_rows from rid message
all_rows Time = tick_rows
