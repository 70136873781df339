-- How a run with several workers ends, by how these ended together.
use Rattle.std.proofs.Common.{◌≡◌, inl, inr, ℕ, sym, subst}
use Rattle.std.specs.Io.KnownBytes.{Appends, Keeps}
use Rattle.r2_desk.specs.declared.totals.Totals.{Totals}
use Rattle.cmd_status.specs.declared.status.Status.{Status}
use Rattle.cmd_status.specs.declared.status.Status.TheVariants.{ClockFault, Done, LinkFault, Memory, TurnsSpent}
use Rattle.cmd_loop.specs.declared.pace.Pace.{Pace}
use Rattle.cmd_loop.specs.Ends.{Ends}
use Rattle.cmd_router.specs.Loops.{WorkersRan}
use Rattle.cmd_router.specs.Routes.{IsWholeRun}
use Rattle.cmd_router.specs.Shares.{Shares, SharesAndFails, line_of}
use Rattle.cmd_router.specs.Workers.{IsWorkersEnd}
use Rattle.cmd_router.specs.Works.{SharesRouter}
use Rattle.cmd_router.proofs.Routes.{Told}

module _ (slots workers : ℕ) (pace : Pace) (a b : Ends) (totals : Totals) where
  whole-shares : (ended result : Status) → IsWholeRun ended → (SharesRouter slots workers pace a b totals ended → Appends a.written b.written (line_of totals) → Shares slots workers pace a b ended)
      → SharesRouter slots workers pace a b totals ended → Told (line_of totals) a.written b.written ended result → Shares slots workers pace a b result
  whole-shares ended result whole tells shares (inl told) = subst (Shares slots workers pace a b) (sym told.0) (tells shares told.1)
  whole-shares ended result whole tells shares (inr cut) =
      subst (Shares slots workers pace a b) (sym cut.0) (record { totals = totals; ended = ended; whole = whole; shares = shares; printed = cut.1 })

  -- a run that a worker's fault ended, or a want of memory
  failed-shares : (ended result : Status) → (SharesAndFails workers pace a b ended → Shares slots workers pace a b ended) → WorkersRan workers pace a.link b.link a.clock b.clock ended
      → (result ≡ ended) × Keeps a.written b.written → Shares slots workers pace a b result
  failed-shares ended result fails ran early = subst (Shares slots workers pace a b) (sym early.0) (fails (record { ran = ran; printed = early.1 }))

  pub shares-of : (ended result : Status) → (IsWholeRun ended → SharesRouter slots workers pace a b totals ended) → WorkersRan workers pace a.link b.link a.clock b.clock ended
      → ((IsWholeRun ended → ⊥) → (result ≡ ended) × Keeps a.written b.written)
      → (IsWholeRun ended → Told (line_of totals) a.written b.written ended result) → IsWorkersEnd ended → Shares slots workers pace a b result
  shares-of Done result shares ran untold told known =
      whole-shares Done result tt (λ k printed. record { totals = totals; shares = k; printed = printed }) (shares tt) (told tt)
  shares-of TurnsSpent result shares ran untold told known =
      whole-shares TurnsSpent result tt (λ k printed. record { totals = totals; shares = k; printed = printed }) (shares tt) (told tt)
  shares-of LinkFault result shares ran untold told known = failed-shares LinkFault result (λ fails. inr fails) ran (untold (λ x. x))
  shares-of ClockFault result shares ran untold told known = failed-shares ClockFault result (λ fails. fails) ran (untold (λ x. x))
  shares-of Memory result shares ran untold told known = failed-shares Memory result (λ fails. inr fails) ran (untold (λ x. x))
  shares-of _ result shares ran untold told known = absurd known
