-- Counts that stand still at the end of their type.
use Rattle.std.specs.Prelude.{Bool, true, false, ℕ, ◌+◌, ◌-◌, ◌^◌, ◌≤◌, min}

-- one more, or the end of the type
abbrev pub counted : ℕ → ℕ
counted n = min (n + 1) (2 ^ 64 - 1)

-- one more where something failed, and else as before
abbrev pub counted_where : Bool → ℕ → ℕ
counted_where true n = counted n
counted_where false n = n

-- the count went up by one or more, or stands at the end of its type
abbrev pub Rose : ℕ → ℕ → Type 0
Rose old new = min (old + 1) (2 ^ 64 - 1) ≤ new

-- how often each object of the outside has failed
pub record Faults : Type 0 where
  pub source : ℕ
  pub sink : ℕ
  pub link : ℕ
  pub clock : ℕ
  pub disk : ℕ

-- where none has
abbrev pub calm : Faults
calm = record { source = 0; sink = 0; link = 0; clock = 0; disk = 0 }

-- no count went down
pub record NoneFalls (old new : Faults) : Type 0 where
  pub source : old.source ≤ new.source
  pub sink : old.sink ≤ new.sink
  pub link : old.link ≤ new.link
  pub clock : old.clock ≤ new.clock
  pub disk : old.disk ≤ new.disk
