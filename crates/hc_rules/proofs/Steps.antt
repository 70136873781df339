-- The beginning has every fact, and each step keeps it.
use Rattle.std.proofs.Common.{ℕ, zero, suc, ◌<◌, ◌≤◌, ◌⊎◌, inl, inr, [], refl, arith}
use Rattle.r2_base.specs.declared.entry.Entry.{Entry}
use Rattle.hc_rules.specs.Log.{Share}
use Rattle.hc_rules.specs.Rules.{Rule, after}
use Rattle.hc_rules.specs.Conditions.{Allowed}
use Rattle.hc_rules.specs.Protocol.{ProtocolState}
use Rattle.hc_rules.specs.Kept.{Kept}
use Rattle.hc_rules.proofs.Acks.{acks_are_below, acknowledged_is_kept, acknowledged_is_the_leaders, granted_is_kept, matched_is_the_leaders, orders_are_slices}
use Rattle.hc_rules.proofs.Candidates.{vote_requests_tell_logs, voters_are_behind}
use Rattle.hc_rules.proofs.Commits.{acks_tell_applied, aggregates_are_committed, aggregator_follows_an_order, aggregator_was_told, applied_is_committed, applied_was_passed, commits_are_committed, orders_tell_committed, passed_was_committed, reached_was_acknowledged, reports_were_learnt}
use Rattle.hc_rules.proofs.Logs.{bodies_are_known, entries_are_old, logs_are_formed, logs_match_books, table_is_distinct}
use Rattle.hc_rules.proofs.Stops.{stopped_members_forgot}
use Rattle.hc_rules.proofs.Votes.{candidates_have_not_won, candidates_have_terms, candidates_voted_for_themselves, counted_votes_are_grants, grants_are_old, late_grants_are_of_won_terms, sent_votes_are_grants, votes_are_grants}
use Rattle.hc_rules.proofs.Winners.{books_are_of_their_terms, leaders_have_won, unwon_terms_have_nothing, winners_are_members, winners_are_not_behind, winners_had_majorities, winners_have_their_books, winners_voted_for_themselves, won_terms_are_positive}
use Rattle.hc_rules.specs.Kept.{IsFormed}
use Rattle.hc_rules.specs.Protocol.{beginning}
use Rattle.hc_rules.proofs.Shares.{share_none}

none : {A : Type 0} (n : ℕ) → n < 0 → A
none n h = absurd (omega (arith, h))

empty_formed : IsFormed [] []
empty_formed = record { rising = λ i k l h. none k h; distinct = λ i k l h. none k h; listed = λ k h. none k h }

pub begins : (members : ℕ) (bounds : ℕ → ℕ) → Kept (beginning members bounds)
begins members bounds =
    record {
      votes = record {
        grants_are_old = λ t v g e. cc;
        votes_are_grants = λ v. refl;
        counted_votes_are_grants = λ v c h. cc;
        sent_votes_are_grants = λ x h. absurd h;
        late_grants_are_of_won_terms = λ t v g e l. cc;
        candidates_voted_for_themselves = λ v h. cc;
        candidates_have_terms = λ v h. cc;
        candidates_have_not_won = λ v h. cc;
        vote_requests_tell_logs = λ q h. absurd h;
        voters_are_behind = λ t v g e. cc;
      };
      winners = record {
        winners_are_members = λ t c e. cc;
        won_terms_are_positive = λ t c e. cc;
        winners_are_not_behind = λ t c e. cc;
        winners_voted_for_themselves = λ t c e. cc;
        winners_had_majorities = λ t c e. cc;
        winners_have_their_books = λ t c e f. refl;
        leaders_have_won = λ v h. cc;
        unwon_terms_have_nothing = λ t e. record { no_base = refl; no_book = refl };
        books_are_of_their_terms = λ t c e. cc;
      };
      logs = record {
        logs_match_books = record { of_log = λ v k h. none k h; of_base = λ t k h. none k h; of_book = λ t k h. none k h; of_grant = λ t v g e. cc };
        logs_are_formed = record { of_log = λ v. empty_formed; of_base = λ t. empty_formed; of_book = λ t. empty_formed; of_grant = λ t v g e. cc };
        entries_are_old = λ v k h. none k h;
        orders_are_slices = λ o h. absurd h;
      };
      acknowledgements = record {
        matched_is_the_leaders = λ v. share_none [] [];
        acknowledged_is_the_leaders = λ t v. record { below = omega arith; old = λ h. none 0 h; held = λ e. share_none [] [] };
        acks_are_below = λ y h. absurd h;
        acknowledged_is_kept = λ t m v h l b. nothing m l;
        granted_is_kept = λ t m u v g e. cc;
      };
      commitments = record {
        commits_are_committed = λ v h. none 0 h;
        orders_tell_committed = λ o h. absurd h;
        aggregates_are_committed = λ y h. absurd h;
        passed_was_committed = λ x h. absurd h;
        applied_is_committed = λ v. omega arith;
        applied_was_passed = λ v j h. none j h;
        reached_was_acknowledged = λ v p h. omega arith;
        acks_tell_applied = λ y h. absurd h;
        reports_were_learnt = λ y h. absurd h;
        aggregator_was_told = λ p. omega arith;
        aggregator_follows_an_order = λ h. none 0 h;
      };
      requests = record {
        table_is_distinct = λ i k q r h. absurd h;
        bodies_are_known = λ v rid h. known h;
      };
      stopped_members_forgot = λ v e. cc;
    }
  where
    nothing : (m : ℕ) → m ≤ 0 → Share {A = Entry} m [] []
    nothing zero l = share_none [] []
    nothing (suc m) l = none m (omega (arith, l))

    known : {A : Type 0} → (⊥ ⊎ (⊥ ⊎ ⊥)) → A
    known (inl h) = absurd h
    known (inr (inl h)) = absurd h
    known (inr (inr h)) = absurd h

pub steps_keep : (w : ProtocolState) (r : Rule) → Kept w → Allowed w r → Kept (after w r)
steps_keep w r k a =
    record {
      votes = record {
        grants_are_old = grants_are_old w k r a;
        votes_are_grants = votes_are_grants w k r a;
        counted_votes_are_grants = counted_votes_are_grants w k r a;
        sent_votes_are_grants = sent_votes_are_grants w k r a;
        late_grants_are_of_won_terms = late_grants_are_of_won_terms w k r a;
        candidates_voted_for_themselves = candidates_voted_for_themselves w k r a;
        candidates_have_terms = candidates_have_terms w k r a;
        candidates_have_not_won = candidates_have_not_won w k r a;
        vote_requests_tell_logs = vote_requests_tell_logs w k r a;
        voters_are_behind = voters_are_behind w k r a;
      };
      winners = record {
        winners_are_members = winners_are_members w k r a;
        won_terms_are_positive = won_terms_are_positive w k r a;
        winners_are_not_behind = winners_are_not_behind w k r a;
        winners_voted_for_themselves = winners_voted_for_themselves w k r a;
        winners_had_majorities = winners_had_majorities w k r a;
        winners_have_their_books = winners_have_their_books w k r a;
        leaders_have_won = leaders_have_won w k r a;
        unwon_terms_have_nothing = unwon_terms_have_nothing w k r a;
        books_are_of_their_terms = books_are_of_their_terms w k r a;
      };
      logs = record {
        logs_match_books = logs_match_books w k r a;
        logs_are_formed = logs_are_formed w k r a;
        entries_are_old = entries_are_old w k r a;
        orders_are_slices = orders_are_slices w k r a;
      };
      acknowledgements = record {
        matched_is_the_leaders = matched_is_the_leaders w k r a;
        acknowledged_is_the_leaders = acknowledged_is_the_leaders w k r a;
        acks_are_below = acks_are_below w k r a;
        acknowledged_is_kept = acknowledged_is_kept w k r a;
        granted_is_kept = granted_is_kept w k r a;
      };
      commitments = record {
        commits_are_committed = commits_are_committed w k r a;
        orders_tell_committed = orders_tell_committed w k r a;
        aggregates_are_committed = aggregates_are_committed w k r a;
        passed_was_committed = passed_was_committed w k r a;
        applied_is_committed = applied_is_committed w k r a;
        applied_was_passed = applied_was_passed w k r a;
        reached_was_acknowledged = reached_was_acknowledged w k r a;
        acks_tell_applied = acks_tell_applied w k r a;
        reports_were_learnt = reports_were_learnt w k r a;
        aggregator_was_told = aggregator_was_told w k r a;
        aggregator_follows_an_order = aggregator_follows_an_order w k r a;
      };
      requests = record {
        table_is_distinct = table_is_distinct w k r a;
        bodies_are_known = bodies_are_known w k r a;
      };
      stopped_members_forgot = stopped_members_forgot w k r a;
    }
