-- A turn in which a server is done with a request, part by part.
use Rattle.std.proofs.Common.{◌≡◌, ◌<◌, ◌≤◌, ◌+◌, ℕ, [], length, refl, sym, ap, ◌∙◌, arith, add-zero}
use Rattle.std.specs.Prelude.{is_some, Option, Some, None}
use Rattle.std.proofs.lemmas.List.{get_or-set_same}
use mir.Val.{bool_byte}
use Rattle.r2_base.specs.declared.rid.Rid.{Rid}
use Rattle.r2_jbsq.specs.declared.routed_request.RoutedRequest.{RoutedRequest}
use Rattle.r2_jbsq.specs.declared.decision.Decision.TheVariants as decision
use Rattle.r2_jbsq.specs.Limits.{greatest_n}
use Rattle.r2_jbsq.specs.Standing.{beside, closed, first_of, gone, row_at, without}
use Rattle.r2_jbsq.specs.State.{IsOpenAt, IsSound, RouterState, counted, passed_on, carried_out}
use Rattle.r2_jbsq.proofs.Freed.{fewer-without, next_closed}

-- a router where a server was done with a request, and this request, if any, goes to that server
abbrev pub gone_at : RouterState → Rid → ℕ → Option RoutedRequest → RouterState
gone_at r rid server first =
    record {
      setup = r.setup;
      standing = gone first server (closed rid server r.standing);
      accepted = r.accepted;
      forwarded = r.forwarded + bool_byte (is_some first);
      answered = r.answered + 1;
      turns = r.turns + 1;
    }

by-first : (r : RouterState) (rid : Rid) (server : ℕ) (first : Option RoutedRequest)
    → counted (passed_on (record r { standing = closed rid server r.standing; answered = r.answered + 1 }) (beside server first)) ≡ gone_at r rid server first
by-first r rid server None =
    ap (λ n. record { setup = r.setup; standing = closed rid server r.standing; accepted = r.accepted; forwarded = n; answered = r.answered + 1; turns = r.turns + 1 })
    (sym (add-zero r.forwarded))
by-first r rid server (Some request) = refl

-- the step is made so, where the router is sound
pub closing : (r : RouterState) (rid : Rid) (server : ℕ) → IsSound r → IsOpenAt rid server r.standing
    → counted (carried_out r (decision.Close rid server)) ≡ gone_at r rid server (first_of r.standing.queue)
closing r rid server k w =
    ap (λ (o : Option (RoutedRequest × ℕ)). counted (passed_on (record r { standing = closed rid server r.standing; answered = r.answered + 1 }) o))
    (next_closed r.setup.n rid server r.standing k.full w)
    ∙ by-first r rid server (first_of r.standing.queue)

-- there is room at that server
pub room-after : (r : RouterState) (rid : Rid) (server : ℕ) → IsSound r → IsOpenAt rid server r.standing → r.setup.n ≤ greatest_n
    → length (row_at (closed rid server r.standing) server) < greatest_n
room-after r rid server k w small =
    let is : row_at (closed rid server r.standing) server ≡ without rid (row_at r.standing server) =
    get_or-set_same r.standing.rows server (without rid (row_at r.standing server)) [] w.is_server in
    omega (arith, ap length is, fewer-without rid (row_at r.standing server) w.is_open, k.within server [] w.is_server, small)
