-- One line of a client's script.
use Rattle.std.proofs.Common.{◌≡◌, ◌≢◌, inr, ℕ, ◌≤◌, ◌==◌, Bool, true, false, List, [], ◌∷◌, length, None, refl, sym, ap, ◌∙◌, arith}
use Rattle.std.proofs.lemmas.List.{nil_from_length}
use Rattle.std.proofs.lemmas.Bool.{eqb-true}
use Rattle.cmd_status.specs.declared.status.Status.{Status}
use Rattle.cmd_status.specs.declared.status.Status.TheVariants.{Memory, SinkFault, LinkFault, ClockFault, TimedOut, IdsUsed, TurnsSpent}
use Rattle.hc_text.specs.declared.policy.Policy.{Policy}
use Rattle.hc_text.specs.declared.policy.Policy.TheVariants.{Fixed, Jbsq, Replicated}
use Rattle.hc_text.specs.declared.call.Call.{Call}
use Rattle.hc_text.specs.Call.{IsCallLine}
use Rattle.hc_text.specs.Policy.{policy_number}
use Rattle.cmd_client.specs.Lines.{MakesLine, StopsLine}
use Rattle.cmd_loop.specs.Ends.{Ends}
use Rattle.cmd_lines.specs.Script.{Say}
use Rattle.cmd_client.specs.Script.{AsksFor}
use Rattle.cmd_client.specs.Stops.{Completes, StopsCall}
use Rattle.cmd_client.specs.Talk.{Asked, Talk, asked_in, items_of}
use Rattle.cmd_client.proofs.Courses.{went-none}

-- an empty line asks for nothing
pub makes-nothing : (policy : Policy) (room : ℕ) (t : Talk) (o : Ends) → t.session.open_call ≡ None → MakesLine policy [] room room t t o o
unfolding asked_in items_of
makes-nothing policy room t o none =
    record { asked = []; said = refl; made = record { steps = []; went = went-none t o; asks = refl; none = none; counted = omega arith } }

pub say-one : (policy : Policy) (line : List ℕ) (call : Asked) → line ≢ [] → AsksFor policy line call → Say (AsksFor policy) (line ∷ []) (call ∷ [])
say-one policy [] call some asks = absurd (some refl)
say-one policy (b ∷ text) call some asks = (asks, refl)

pub makes-one : (policy : Policy) (line : List ℕ) (call : Asked) (room left : ℕ) (t u : Talk) (a b : Ends) → line ≢ [] → AsksFor policy line call
    → Completes (call ∷ []) room left t u a b → MakesLine policy line room left t u a b
makes-one policy line call room left t u a b some asks made = record { asked = call ∷ []; said = say-one policy line call some asks; made = made }

pub stops-one : (policy : Policy) (line : List ℕ) (number : ℕ) (call : Asked) (room : ℕ) (t : Talk) (a b : Ends) (status : Status) → line ≢ [] → AsksFor policy line call
    → StopsCall call room t a b status → StopsLine policy line number room t a b status
stops-one policy line number call room t a b Memory some asks stops = inr (record { nonempty = some; call = call; asks = asks; stops = stops })
stops-one policy line number call room t a b IdsUsed some asks stops = record { nonempty = some; call = call; asks = asks; stops = stops }
stops-one policy line number call room t a b SinkFault some asks stops = record { nonempty = some; call = call; asks = asks; stops = stops }
stops-one policy line number call room t a b LinkFault some asks stops = record { nonempty = some; call = call; asks = asks; stops = stops }
stops-one policy line number call room t a b ClockFault some asks stops = record { nonempty = some; call = call; asks = asks; stops = stops }
stops-one policy line number call room t a b TimedOut some asks stops = record { nonempty = some; call = call; asks = asks; stops = stops }
stops-one policy line number call room t a b TurnsSpent some asks stops = record { nonempty = some; call = call; asks = asks; stops = stops }
stops-one policy line number call room t a b _ some asks stops = absurd stops

pub differ : false ≡ true → ⊥
differ e = cc

cons-nil : {x : ℕ} {line : List ℕ} → x ∷ line ≡ [] → ⊥
cons-nil e = cc

pub is-nil : (line : List ℕ) (b : Bool) → b ≡ (length line == 0) → b ≡ true → line ≡ []
is-nil line b is so = nil_from_length line (eqb-true (length line) 0 (sym is ∙ so))

pub isn't-nil : (line : List ℕ) (b : Bool) → b ≡ (length line == 0) → b ≡ false → line ≢ []
isn't-nil [] b is so = λ e. absurd (differ (sym so ∙ is))
isn't-nil (x ∷ line) b is so = λ e. absurd (cons-nil e)

-- what the line asks for, by its parts
pub asks-for : (policy : Policy) (line : List ℕ) (call : Call) (number : ℕ) (body : List ℕ) → IsCallLine line call → number ≡ policy_number policy call.read → body ≡ call.body
    → AsksFor policy line (record { policy = number; body = body })
asks-for policy line call number body said p q =
    record { call = call; said = said; is = ap (λ (n : ℕ). record { policy = n; body = body }) p ∙ ap (λ (b : List ℕ). record { policy = policy_number policy call.read; body = b }) q }

pub policies : (policy : Policy) (number : ℕ) (read : Bool) → number ≡ policy_number policy read → number ≤ 3
policies Fixed number read is = omega (arith, is)
policies Jbsq number read is = omega (arith, is)
policies Replicated number true is = omega (arith, is)
policies Replicated number false is = omega (arith, is)
