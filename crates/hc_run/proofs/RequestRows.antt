-- The rows of requests, and those in which nothing happens.
use Rattle.std.proofs.Common.{◌≡◌, ℕ, suc, ◌+◌, ◌<◌, ◌^◌, ◌||◌, Bool, true, false, List, [], ◌∷◌, ◌++◌, length, Option, None, Some, refl, sym, ap, subst, ◌∙◌, arith, inl, inr}
use Rattle.std.specs.Prelude.{if◌then◌else◌, nat_le, slice_get, slice_index_or}
use Rattle.std.proofs.Common.{add-one, length-append, take}
use Rattle.std.proofs.lemmas.List.{length-take}
use Rattle.r2_base.specs.declared.entry.Entry.{Entry}
use Rattle.hc_log.specs.declared.stored.Stored.{Stored}
use Rattle.std.proofs.lemmas.List.Elements.{All-cons, All-nil, All-push}
use Rattle.r2_frag.specs.declared.kept.KeptReply.{KeptReply}
use Rattle.r2_frag.specs.Kept.{newest}
use Rattle.hc_log.specs.Log.{blank_of, stands_in}
use Rattle.hc_pool.specs.declared.request.Request.{Request}
use Rattle.hc_pool.specs.Pool.{most_pooled, waits_in}
use Rattle.hc_service.specs.Entries.{operations}
use Rattle.hc_member.specs.declared.setup.Setup.{Setup}
use Rattle.hc_member.specs.declared.heard.Heard.TheVariants.{Nothing, Whole}
use Rattle.hc_member.specs.Bodies.{answered_again, hear_request, pooled}
use Rattle.hc_member.specs.Member.{Member}
use Rattle.hc_member.specs.Outcome.{stays}
use Rattle.hc_member.specs.Sending.{Reply as ReplyTo}
use Rattle.hc_member.specs.Sound.{IsRightReply, IsSound}
use Rattle.hc_member.specs.Turn.{row}
use Rattle.hc_member.proofs.Answers.{newest-All}
use Rattle.hc_member.proofs.Rows.{goes-row}
use Rattle.hc_rules.specs.Log.{In, entry_at}
use Rattle.hc_rules.specs.Message.{Passed}
use Rattle.hc_rules.specs.Protocol.{ProtocolState}
use Rattle.hc_rules.specs.Rules.{AnswerAgain}
use Rattle.hc_run.specs.Backed.{IsBacked}
use Rattle.hc_run.specs.Held.{IsAskedIn, WasReplied}
use Rattle.hc_run.specs.Rows.{HearsSent, IsRow, RowIsRules}
use Rattle.hc_run.specs.Steps.{index_in, reply_from}
use Rattle.hc_run.proofs.Common.{can-act, holds-on, nothing-row}
use Rattle.hc_run.proofs.Metas.{get-metas, index-reply}
use Rattle.hc_run.proofs.Ties.{tie-rest}

abbrev passed_of : ℕ → ℕ → Entry → Passed
passed_of v index e = record { member = v; index = index; entry = e }

pub quiet_rows : RowIsRules Nothing
unfolding row
quiet_rows s w m h = nothing-row s w m Nothing h refl

-- what was passed, by its parts
passed-is : (v before : ℕ) (e : Entry) (index : ℕ) (there : Entry) → suc before ≡ index → there ≡ e
    → (record { member = v; index = suc before; entry = there }) ≡ passed_of v index e
passed-is v before e index there same is = cc

module _ (s : Setup) (w : ProtocolState) (m : Member) (r : Request) (h : HearsSent s w m (Whole r)) where
  -- an index that a log may have fits eight bytes
  index-fits : (before : ℕ) → before < m.applied → suc before < 2 ^ 64
  index-fits before below =
      let sound = h.shown.sound in
      let batch = sound.batch in
      let committed = sound.committed in
      let valid = sound.durable in
      let inside : before < length m.log = omega (arith, below, batch, committed) in
      let limits = (valid.log before (blank_of 0) inside).limits in
      let entries = limits.entries in
      let long : length (take before m.log ++ slice_index_or m.log before (blank_of 0) ∷ []) ≡ before + 1 = simp (length-append, length-take) (omega (arith, inside)) in
      omega (arith, entries, long)

  tied-entry : (before : ℕ) (stored : Stored) → slice_get m.log before ≡ Some stored → entry_at (w.log s.me) (suc before) ≡ stored.entry
  tied-entry before stored e =
      let tied = h.shown.tied in
      ap (λ (l : List Entry). entry_at l (suc before)) tied.log ∙ get-metas m.log before stored e

  -- a kept reply goes out again
  again-row : (kept : Option KeptReply) → newest r.rid m.kept ≡ kept → IsRow s w m (Whole r) (stays m m (answered_again kept))
  again-row None e = nothing-row s w m (Whole r) h refl
  again-row (Some reply) e =
      let shown = h.shown in
      let sound = shown.sound in
      let holds = shown.holds in
      let tied = shown.tied in
      let was = newest-All (WasReplied w.replied) r.rid m.kept reply holds.kept e in
      let right = newest-All (IsRightReply s.me m.applied m.log) r.rid m.kept reply sound.kept e in
      let kept = h.kept in
      let commitments = kept.commitments in
      let made = reply_from was.place reply in
      let is = right.right in
      let index : index_in reply.payload ≡ suc right.before =
      subst (λ (i : ℕ). index_in reply.payload ≡ i) (add-one right.before)
      (index-reply (operations m.log) (right.before + 1) reply.payload (rw add-one (index-fits right.before right.is_applied)) is.payload) in
      let below = right.is_applied in
      let passed = commitments.applied_was_passed s.me right.before (rw tied.applied below) in
      record {
        rules = AnswerAgain s.me made right.stored.entry ∷ [];
        are =
            record {
              own = (refl, tt);
              allowed = (
                record {
                  acts = can-act s w m (Whole r) h;
                  sent = was.made;
                  passed =
                      subst (λ (x : Passed). In x w.passed) (passed-is s.me right.before right.stored.entry (index_in reply.payload) _ (sym index) (tied-entry right.before right.stored right.placed)) passed;
                  request = sym is.rid;
                  replier = is.replier;
                },
                tt,
              );
              shown =
                  record {
                    group = record { size = shown.group.size; bound = shown.group.bound };
                    tied = tied;
                    sound = sound;
                    holds = holds-on w.table w.replied (reply_from (length w.table) reply ∷ w.replied) w.reports w.reports s.me m m holds refl refl refl refl (λ x there. inr there) holds.led;
                  };
              backed = All-cons (IsBacked s _) (ReplyTo reply) [] (inl refl) (All-nil (IsBacked s _));
              passed = refl;
              reports = refl;
            };
      }

  -- a new request waits
  pooled-row : (b : Bool) → IsSound s (if b then m else record m { pool = m.pool ++ r ∷ [] })
      → IsRow s w m (Whole r) (stays m (if b then m else record m { pool = m.pool ++ r ∷ [] }) [])
  pooled-row true sound = nothing-row s w m (Whole r) h refl
  pooled-row false sound =
      let shown = h.shown in
      let holds = shown.holds in
      record {
        rules = [];
        are =
            record {
              own = tt;
              allowed = tt;
              shown =
                  record {
                    group = shown.group;
                    tied = tie-rest _ m m.silent m.pending (m.pool ++ r ∷ []) m.unfinished m.kept m.service m.lead.next m.lead.queues shown.tied;
                    sound = sound;
                    holds =
                        record {
                          bodies = holds.bodies;
                          pool = All-push (IsAskedIn w.table) m.pool r holds.pool h.sent;
                          kept = holds.kept;
                          led = holds.led;
                          unfinished = holds.unfinished;
                        };
                  };
              backed = All-nil (IsBacked s w);
              passed = refl;
              reports = refl;
            };
      }

  request-row : (b : Bool) → IsSound s (if b then stays m m (answered_again (newest r.rid m.kept)) else stays m (pooled m r) []).member
      → IsRow s w m (Whole r) (if b then stays m m (answered_again (newest r.rid m.kept)) else stays m (pooled m r) [])
  unfolding pooled
  request-row true sound = again-row (newest r.rid m.kept) refl
  request-row false sound = pooled-row (waits_in r.rid m.pool || nat_le most_pooled (length m.pool)) sound

pub request_rows : (r : Request) → RowIsRules (Whole r)
unfolding row hear_request
request_rows r s w m h =
    let goes = goes-row s h.setup m (Whole r) h.sayable h.shown.sound in
    request-row s w m r h (stands_in r.rid m.log) goes.sound
