-- What the five ledgers of a desk count: turns, slots, and requests that were accepted, forwarded and answered.
use Rattle.std.specs.Prelude.{◌≡◌, ℕ, ◌+◌, ◌-◌, ◌≤◌, List, sum_by}
use Rattle.r2_jbsq.specs.State.{RouterState, slots_of}
use Rattle.r2_desk.specs.declared.totals.Totals.{Totals}
use Rattle.r2_desk.specs.States.{BookState, PassState}

-- a number of each ledger
pub record Amounts : Type 0 where
  pub turns : ℕ
  pub slots : ℕ
  pub accepted : ℕ
  pub forwarded : ℕ
  pub answered : ℕ

abbrev pub amounts : ℕ → ℕ → ℕ → ℕ → ℕ → Amounts
amounts turns slots accepted forwarded answered =
    record { turns = turns; slots = slots; accepted = accepted; forwarded = forwarded; answered = answered }

-- the parts and the amounts of a share of each ledger
pub record Holding : Type 0 where
  pub parts : Amounts
  pub held : Amounts

-- one part of each
abbrev pub one_part : Amounts
one_part = amounts 1 1 1 1 1

-- so many parts of each
abbrev pub times : ℕ → Amounts
times n = amounts n n n n n

-- two of them together
abbrev pub plus : Amounts → Amounts → Amounts
plus a b =
    amounts (a.turns + b.turns) (a.slots + b.slots) (a.accepted + b.accepted) (a.forwarded + b.forwarded) (a.answered + b.answered)

abbrev pub merged : Holding → Holding → Holding
merged a b = record { parts = plus a.parts b.parts; held = plus a.held b.held }

-- counts of turns and requests more
abbrev pub added : Amounts → Totals → Amounts
added a by = amounts (a.turns + by.turns) a.slots (a.accepted + by.accepted) (a.forwarded + by.forwarded) (a.answered + by.answered)

abbrev pub counting : Holding → Totals → Holding
counting share by = record { parts = share.parts; held = added share.held by }

abbrev pub more : Totals → Totals → Totals
more a by =
    record {
      turns = a.turns + by.turns;
      accepted = a.accepted + by.accepted;
      forwarded = a.forwarded + by.forwarded;
      answered = a.answered + by.answered;
    }

-- nothing counted
abbrev pub no_totals : Totals
no_totals = record { turns = 0; accepted = 0; forwarded = 0; answered = 0 }

-- what one turn adds that grew these counts to those
abbrev pub gained : Totals → Totals → Totals
gained before after =
    record {
      turns = 1;
      accepted = after.accepted - before.accepted;
      forwarded = after.forwarded - before.forwarded;
      answered = after.answered - before.answered;
    }

-- each count of requests stays, or goes up by one
pub record GainsAtMostOne (before after : Totals) : Type 0 where
  pub accepted : before.accepted ≤ after.accepted
  pub one_accepted : after.accepted ≤ before.accepted + 1
  pub forwarded : before.forwarded ≤ after.forwarded
  pub one_forwarded : after.forwarded ≤ before.forwarded + 1
  pub answered : before.answered ≤ after.answered
  pub one_answered : after.answered ≤ before.answered + 1

-- the counts of a router, beside so many turns
abbrev pub tally : RouterState → ℕ → Totals
tally r turns = record { turns = turns; accepted = r.accepted; forwarded = r.forwarded; answered = r.answered }

-- what one turn adds that made the second router of the first
abbrev pub grown : RouterState → RouterState → Totals
grown r r' = gained (tally r 0) (tally r' 0)

-- the four numbers of a book
abbrev pub totals_of : BookState → Totals
totals_of b = tally b.router b.turns

-- what the five ledgers say of a book, and of a pass
abbrev pub counts_of : BookState → Amounts
counts_of b = amounts b.turns (slots_of b.router.setup) b.router.accepted b.router.forwarded b.router.answered

abbrev pub counts_made : PassState → Amounts
counts_made p = amounts p.made.turns p.slots p.made.accepted p.made.forwarded p.made.answered

-- what they say of these passes together
abbrev pub sums_made : List PassState → Amounts
sums_made passes =
    amounts (sum_by (λ (p : PassState). p.made.turns) passes) (sum_by (λ (p : PassState). p.slots) passes) (sum_by (λ (p : PassState). p.made.accepted) passes)
    (sum_by (λ (p : PassState). p.made.forwarded) passes) (sum_by (λ (p : PassState). p.made.answered) passes)

-- no more than these
pub record AreAtMost (a b : Amounts) : Type 0 where
  pub turns : a.turns ≤ b.turns
  pub slots : a.slots ≤ b.slots
  pub accepted : a.accepted ≤ b.accepted
  pub forwarded : a.forwarded ≤ b.forwarded
  pub answered : a.answered ≤ b.answered

-- no count grows faster than that of turns
pub record GrowsWithTurns (t : Totals) : Type 0 where
  pub accepted : t.accepted ≤ t.turns
  pub forwarded : t.forwarded ≤ t.turns
  pub answered : t.answered ≤ t.turns

-- what holds of a pass: its share has one part of each ledger, with what the pass made
pub record IsPass (p : PassState) (share : Holding) : Type 0 where
  pub parts : share.parts ≡ one_part
  pub counted : share.held ≡ counts_made p
  pub few : GrowsWithTurns p.made
