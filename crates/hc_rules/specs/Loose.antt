-- Two rules with a condition left out, to show what the condition is for.
use Rattle.std.specs.Prelude.{◌≡◌, ◌⊎◌, ℕ, ◌+◌, ◌<◌, ◌≤◌, ◌||◌, nat_le, List, length}
use Rattle.hc_rules.specs.Conditions.{Allowed, AreHeld, Fits, Hears}
use Rattle.hc_rules.specs.Log.{In}
use Rattle.hc_rules.specs.Majority.{IsMajority}
use Rattle.hc_rules.specs.Message.{Order}
use Rattle.hc_rules.specs.Rules.{Rule, Take, Aggregate}
use Rattle.hc_rules.specs.Runs.{EachMay, state_after}
use Rattle.hc_rules.specs.Protocol.{ProtocolState, acked, beginning, told}

-- the aggregator counts at any entry, before the leader's own first one too
pub record MayAggregateAnywhere (w : ProtocolState) (o : Order) (m : ℕ) : Type 0 where
  pub sent : In o w.orders
  pub here : 0 < m
  pub backed : IsMajority w.size (λ p. nat_le m (told w.orders o.term p) || nat_le m (acked w.acks o.term p))

-- all rules, but this one loosely
abbrev pub AllowedButAggregate : ProtocolState → Rule → Type 0
AllowedButAggregate w (Aggregate o m) = MayAggregateAnywhere w o m
AllowedButAggregate w r = Allowed w r

-- what is cut is not known to be committed, nor to be the leader's; but it may be the same as in the Order
pub record MayCutAnywhere (w : ProtocolState) (v : ℕ) (o : Order) (i : ℕ) : Type 0 where
  pub told : i < length o.entries
  pub committed : w.commit v ≤ o.previous + i
  pub matched : w.matched v ≤ o.previous + i

-- a member takes an Order and cuts its log even where it agrees
pub record MayTakeAnywhere (w : ProtocolState) (v : ℕ) (o : Order) (i k : ℕ) : Type 0 where
  pub hears : Hears w v o
  pub fits : Fits (w.log v) o i
  pub order : i ≤ k
  pub count : k ≤ length o.entries
  pub cut : (length (w.log v) ≡ o.previous + i) ⊎ MayCutAnywhere w v o i
  pub bodies : AreHeld (w.pool v) (w.log v) o.entries i k

-- all rules, but this one loosely
abbrev pub AllowedButTake : ProtocolState → Rule → Type 0
AllowedButTake w (Take v o i k) = MayTakeAnywhere w v o i k
AllowedButTake w r = Allowed w r

-- some run under these rules leads to a state without this fact
pub record IsBroken (May : ProtocolState → Rule → Type 0) (Fact : ProtocolState → Type 0) : Type 0 where
  pub members : ℕ
  pub bounds : ℕ → ℕ
  pub rules : List Rule
  pub allowed : EachMay May (beginning members bounds) rules
  pub fails : Fact (state_after members bounds rules) → ⊥
