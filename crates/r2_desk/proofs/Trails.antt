-- A trail stays right, and the router stands for it, when a turn is made.
use Rattle.std.proofs.Common.{◌≡◌, ◌<◌, ◌≤◌, ◌+◌, ℕ, List, [], ◌∷◌, ◌++◌, length, refl, sym, subst, arith, length-append}
use Rattle.r2_base.specs.declared.datagram.Datagram.{Datagram}
use Rattle.r2_base.specs.declared.event.Event.{Event}
use Rattle.r2_jbsq.specs.declared.router_setup.RouterSetup.{RouterSetup}
use Rattle.r2_jbsq.specs.Answer.{answer, history_after, marks}
use Rattle.r2_jbsq.specs.History.{Mark}
use Rattle.r2_jbsq.specs.State.{RouterState, StandsFor}
use Rattle.r2_jbsq.proofs.Turns.{turn_sends, turn_stands}
use Rattle.r2_desk.specs.declared.step.Step.{Step}
use Rattle.r2_desk.specs.Trails.{IsRight, IsTrailOf, history_of}
use Rattle.r2_desk.specs.Turns.{IsOneTurn, step}

-- the history after one step more
pub history-more : (setup : RouterSetup) (history : List Mark) (steps : List Step) (s : Step)
    → history_of setup history (steps ++ s ∷ []) ≡ history_of setup history steps ++ marks setup (history_of setup history steps) s.event
unfolding history_after
history-more setup history [] s = refl
history-more setup history (t ∷ rest) s = history-more setup (history ++ marks setup history t.event) rest s

-- one step more, with the next number and what its event comes to after all others
pub right-more : (setup : RouterSetup) (history : List Mark) (n : ℕ) (steps : List Step) (s : Step) → IsRight setup history n steps
    → s.number ≡ n + length steps → s.sends ≡ answer setup (history_of setup history steps) s.event → IsRight setup history n (steps ++ s ∷ [])
unfolding history_after
right-more setup history n [] s k number sends = (omega (arith, number), sends, tt)
right-more setup history n (t ∷ rest) s k number sends =
    (k.0, k.1, right-more setup (history ++ marks setup history t.event) (n + 1) rest s k.2 (omega (arith, number)) sends)

-- a turn within the trail, of which a step is put last
pub turn_within : (router router' : RouterState) (turns most pass : ℕ) (steps : List Step) (event : Event) (sends : List Datagram)
    → IsOneTurn router event sends router' → turns < most → IsTrailOf router turns most steps
    → IsTrailOf router' (turns + 1) most (steps ++ step pass (turns + 1) event sends ∷ [])
turn_within router router' turns most pass steps event sends turn room k =
    let s : Step = step pass (turns + 1) event sends in
    let here : StandsFor router (history_of router.setup [] steps) = k.stands (omega (arith, room)) in
    let all : length steps ≡ turns = k.long.all (omega (arith, room)) in
    let longer : length (steps ++ s ∷ []) ≡ length steps + 1 = length-append steps (s ∷ []) in
    let right : IsRight router.setup [] 1 (steps ++ s ∷ []) =
    right-more router.setup [] 1 steps s k.right (omega (arith, all)) (turn_sends router router' event sends (history_of router.setup [] steps) turn.exact here) in
    let next : StandsFor router' (history_of router.setup [] (steps ++ s ∷ [])) =
    subst (StandsFor router') (sym (history-more router.setup [] steps s)) (turn_stands router router' event sends (history_of router.setup [] steps) turn.exact here) in
    record {
      right = subst (λ (setup : RouterSetup). IsRight setup [] 1 (steps ++ s ∷ [])) (sym turn.setup) right;
      long = record { all = λ h. omega (arith, longer, all); full = λ h. omega (arith, longer, all, room, h) };
      stands = λ h. subst (λ (setup : RouterSetup). StandsFor router' (history_of setup [] (steps ++ s ∷ []))) (sym turn.setup) next;
    }

-- a turn after the last that is recorded leaves the trail right
pub turn_after : (router router' : RouterState) (turns most : ℕ) (steps : List Step) (event : Event) (sends : List Datagram)
    → IsOneTurn router event sends router' → most ≤ turns → IsTrailOf router turns most steps → IsTrailOf router' (turns + 1) most steps
turn_after router router' turns most steps event sends turn spent k =
    record {
      right = subst (λ (setup : RouterSetup). IsRight setup [] 1 steps) (sym turn.setup) k.right;
      long = record { all = λ h. absurd (omega (arith, h, spent)); full = λ h. k.long.full spent };
      stands = λ h. absurd (omega (arith, h, spent));
    }
