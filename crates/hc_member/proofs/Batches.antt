-- A batch leaves the service as one thread would, and its answers are right replies.
use Rattle.std.proofs.Common.{take-add, ◌≡◌, ℕ, ◌+◌, ◌-◌, ◌≤◌, cond, List, ◌++◌, length, get_or, map, take, drop, Some, sym, ap, subst, ◌∙◌, arith}
use Rattle.std.specs.Prelude.{◌==◌, ◌&&◌, All}
use Rattle.std.specs.FinMap as finite
use Rattle.std.proofs.lemmas.List.{map-append}
use Rattle.std.proofs.lemmas.List.Elements.{All-map}
use Rattle.std.proofs.lemmas.List.Sums.{sum_by-append}
use Rattle.std.proofs.lemmas.Option.{slice_get-get_or}
use Rattle.hc_log.specs.declared.stored.Stored.{Stored}
use Rattle.hc_log.specs.Log.{blank_of, stored_at}
use Rattle.hc_store.specs.State.{State}
use Rattle.hc_store.specs.Replies.{after_all, reply_at}
use Rattle.hc_service.specs.declared.answer.Answer.{Answer}
use Rattle.hc_service.specs.Batch.{entries_between, run_all}
use Rattle.hc_service.specs.Entries.{IsReplayed, contents_after, is_read, is_write, operation_of, operations, own_reads_of, writes_of}
use Rattle.hc_service.specs.Laws.{AreAnswers, HasRun, IsAnswer}
use Rattle.hc_service.proofs.Answering.{batches_answer}
use Rattle.hc_service.proofs.Entries.{after_all-append}
use Rattle.hc_service.proofs.Running.{batches_run}
use Rattle.hc_member.specs.Finish.{reply_to}
use Rattle.hc_member.specs.Heard.{policy_of}
use Rattle.hc_member.specs.Sound.{IsRightReply}

writes_of-append : (xs ys : List Stored) → writes_of (xs ++ ys) ≡ writes_of xs + writes_of ys
unfolding writes_of
writes_of-append xs ys = sum_by-append (λ (s : Stored). cond (is_write s.entry.kind) 1 0) xs ys

own_reads_of-append : (me : ℕ) (xs ys : List Stored) → own_reads_of me (xs ++ ys) ≡ own_reads_of me xs + own_reads_of me ys
unfolding own_reads_of
own_reads_of-append me xs ys = sum_by-append (λ (s : Stored). cond (is_read s.entry.kind && (s.entry.replier == me)) 1 0) xs ys

contents_after-append : (xs ys : List Stored) → contents_after (xs ++ ys) ≡ after_all (contents_after xs) (operations ys)
unfolding operations
contents_after-append xs ys =
    ap (after_all finite.empty) (map-append operation_of xs ys) ∙ after_all-append finite.empty (operations xs) (operations ys)

-- entries are executed after others
replayed-run : (me : ℕ) (old entries : List Stored) (before after : State) → HasRun me entries before after → IsReplayed me old before
    → IsReplayed me (old ++ entries) after
replayed-run me old entries before after run is =
    record {
      contents = run.contents ∙ ap (λ c. after_all c (operations entries)) is.contents ∙ sym (contents_after-append old entries);
      writes = omega (arith, run.writes, is.writes, writes_of-append old entries);
      reads = omega (arith, run.reads, is.reads, own_reads_of-append me old entries);
    }

-- the entries of a batch, from the next one on
between-next : (log : List Stored) (applied count : ℕ) → entries_between log (applied + 1) (applied + count) ≡ take count (drop applied log)
between-next log applied count =
    let many : applied + count + 1 - (applied + 1) ≡ count = omega arith in
    let before : applied + 1 - 1 ≡ applied = omega arith in
    ap (λ (n : ℕ). take n (drop (applied + 1 - 1) log)) many ∙ ap (λ (n : ℕ). take count (drop n log)) before

-- the service after a batch
pub batch-replayed : (me : ℕ) (log : List Stored) (applied count : ℕ) (service : State) → IsReplayed me (take applied log) service
    → IsReplayed me (take (applied + count) log) (run_all me (applied + 1) (entries_between log (applied + 1) (applied + count)) service).service
batch-replayed me log applied count service is =
    let entries = entries_between log (applied + 1) (applied + count) in
    let run = batches_run me (applied + 1) entries service in
    let both = replayed-run me (take applied log) entries service (run_all me (applied + 1) entries service).service run is in
    let front : take applied log ++ entries ≡ take (applied + count) log =
    ap (λ (es : List Stored). take applied log ++ es) (between-next log applied count) ∙ sym (take-add applied count log) in
    subst (λ (l : List Stored). IsReplayed me l (run_all me (applied + 1) entries service).service) front both

-- the answers of a batch
pub batch-answers : (me : ℕ) (log : List Stored) (applied count : ℕ) (service : State) → applied + count ≤ length log → IsReplayed me (take applied log) service
    → AreAnswers me log (applied + 1) (applied + count) (run_all me (applied + 1) (entries_between log (applied + 1) (applied + count)) service).answers
batch-answers me log applied count service within is =
    let before : applied ≡ applied + 1 - 1 = omega arith in
    batches_answer me log (applied + 1) (applied + count) service (omega arith) (omega arith) within
    (is.contents ∙ ap (λ (n : ℕ). contents_after (take n log)) before)

-- an answer is a right reply
answer-right : (me applied count : ℕ) (log : List Stored) (a : Answer) → applied + count ≤ length log → IsAnswer me log (applied + 1) (applied + count) a
    → IsRightReply me (applied + count) log (reply_to a)
answer-right me applied count log a within is =
    let low = is.first in
    let high = is.last in
    let own = is.is_own in
    let up : a.index - 1 + 1 ≡ a.index = omega (arith, low) in
    record {
      before = a.index - 1;
      is_applied = omega (arith, low, high);
      stored = stored_at log a.index;
      placed = slice_get-get_or log (a.index - 1) (blank_of 0) (omega (arith, low, high, within));
      right =
          record {
            rid = is.rid;
            policy = ap policy_of is.kind;
            replier = own.own;
            payload = subst (λ (i : ℕ). reply_at (operations log) i ≡ Some a.payload) (sym up) is.payload;
          };
    }

pub answers-right : (me applied count : ℕ) (log : List Stored) (answers : List Answer) → applied + count ≤ length log
    → AreAnswers me log (applied + 1) (applied + count) answers → All (IsRightReply me (applied + count) log) (map reply_to answers)
answers-right me applied count log answers within are =
    All-map (IsRightReply me (applied + count) log) reply_to answers
    (λ k d inside. answer-right me applied count log (get_or answers k d) within (are.each k d inside))
