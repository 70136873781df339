-- The records that a journal tells, and the durable state that they lead to, one turn more.
use Rattle.std.proofs.Common.{◌≡◌, List, Option, Some, None, refl, sym, ap, ◌∙◌, subst, append-nil}
use Rattle.r2_link.specs.Told.{Gains}
use Rattle.hc_log.specs.declared.record.Record.{Record}
use Rattle.hc_log.specs.Durable.{State, IsNext, after, replay}
use Rattle.hc_log.proofs.Replays.{replay_push}
use Rattle.hc_member.specs.Laws.{IsStored}
use Rattle.cmd_loop.specs.Party.{MayStore, records_of}
use Rattle.cmd_replica.specs.Replica.{LeadTo}

-- the record of a change may be stored
pub may-store : (told : Option (List Record)) (d e : State) (stored : Option Record) → IsStored d stored e → LeadTo told d → MayStore told stored
may-store told d e None is leads = tt
may-store None d e (Some r) is leads = (let next = is.next in next.in_range, tt)
may-store (Some records) d e (Some r) is leads =
    (let next = is.next in next.in_range, subst (λ (x : State). IsNext x r) (sym leads) is.next)

-- and once it is stored, the records lead to the changed state
pub leads-on : (told told' : Option (List Record)) (d e : State) (stored : Option Record) → IsStored d stored e → LeadTo told d
    → Gains told told' (records_of stored) → (told ≡ None → told' ≡ None) → LeadTo told' e
leads-on None None d e stored is leads gains silent = tt
leads-on None (Some ys) d e stored is leads gains silent = absurd (let none = silent refl in cc)
leads-on (Some xs) None d e stored is leads gains silent = tt
leads-on (Some xs) (Some ys) d e None is leads gains silent = ap replay (gains ∙ append-nil xs) ∙ leads ∙ sym is
leads-on (Some xs) (Some ys) d e (Some r) is leads gains silent =
    ap replay gains ∙ replay_push xs r ∙ ap (λ (x : State). after x r) leads ∙ is.leads
