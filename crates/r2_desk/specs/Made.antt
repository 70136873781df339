-- What a desk is made of and with which passes.
use Rattle.std.specs.Prelude.{◌≡◌, ℕ, zero, suc, ◌≤◌, ◌==◌, if◌then◌else◌, List, [], ◌∷◌, ◌++◌, sum_by}
use Rattle.r2_desk.specs.Counts.{no_totals}
use Rattle.r2_desk.specs.States.{PassState}

-- a blank of the ledger that has this name and so many parts, one for each worker
pub record IsBlankOf (workers blank_name blank_parts ledger_name ledger_parts : ℕ) : Type 0 where
  pub name : blank_name ≡ ledger_name
  pub parts : blank_parts ≡ ledger_parts
  pub one_each : blank_parts ≡ workers

-- a pass that has made no turn. The first one has all slots
abbrev pub first_slots : ℕ → ℕ → ℕ
first_slots slots number = if number == 0 then slots else 0

abbrev pub fresh_pass : ℕ → ℕ → PassState
fresh_pass slots number = record { number = number; seen = 0; made = no_totals; slots = first_slots slots number; own = [] }

-- so many passes, numbered from 0 in order
abbrev pub fresh_passes : ℕ → ℕ → List PassState
fresh_passes slots zero = []
fresh_passes slots (suc n) = fresh_passes slots n ++ fresh_pass slots n ∷ []

-- the slots of all passes are those of the desk
abbrev pub FreshSlotsAddUp : Type 0
FreshSlotsAddUp = (slots workers : ℕ) → 1 ≤ workers → sum_by (λ (p : PassState). p.slots) (fresh_passes slots workers) ≡ slots
