-- A call's beginning, from what its calls say.
use Rattle.std.proofs.Common.{◌≡◌, ℕ, false, List, [], ◌∷◌, ◌++◌, Option, Some, None, Result, Ok, Err, refl, ap, subst, arith}
use Rattle.std.specs.Prelude.{MatchOption, IfErr}
use Rattle.r2_base.specs.declared.datagram.Datagram.{Datagram}
use Rattle.r2_client.specs.declared.begin_fault.BeginFault.{BeginFault}
use Rattle.r2_client.specs.declared.begin_fault.BeginFault.TheVariants.{IdsUsed, Memory as NoMemory}
use Rattle.r2_client.specs.Sendings.{sending}
use Rattle.r2_client.specs.Session.{began, new_call, refusal}
use Rattle.r2_client.specs.State.{SessionState}
use Rattle.cmd_loop.specs.declared.ticker.Ticker.{Ticker}
use Rattle.cmd_loop.specs.Ends.{Ends}
use Rattle.cmd_client.specs.Outside.{Talks}
use Rattle.cmd_client.specs.Talk.{Asks, IsOpen, asked_in, items_of, moments_of, talk}
use Rattle.cmd_client.specs.Stops.{CutsSends, Went}
use Rattle.cmd_client.proofs.Rounds.{cut-one, went-one}

-- a call that begins isn't refused
pub not-refused : {T : Type 0} (o : Option BeginFault) (r : Result T BeginFault) (x : T) → r ≡ Ok x
    → MatchOption o (IfErr r (λ fault. fault ≡ NoMemory)) (λ (fault : BeginFault). r ≡ Err fault) → o ≡ None
not-refused None r x is h = refl
not-refused (Some fault) r x is h = absurd (cc (is, h))

-- a call that is refused has no id
pub refused : {T : Type 0} (o : Option BeginFault) (r : Result T BeginFault) → r ≡ Err IdsUsed
    → MatchOption o (IfErr r (λ fault. fault ≡ NoMemory)) (λ (fault : BeginFault). r ≡ Err fault) → o ≡ Some IdsUsed
refused {T} None r is h = let never : IdsUsed ≡ NoMemory = subst (λ (x : Result T BeginFault). IfErr x (λ fault. fault ≡ NoMemory)) is h in absurd (cc (never))
refused (Some fault) r is h = cc (is, h)

pub began-opened : (s : SessionState) (policy : ℕ) (body : List ℕ) → IsOpen (began s policy body).open_call
unfolding began
began-opened s policy body = tt

pub went-asks : (s s' : SessionState) (k : Ticker) (policy : ℕ) (body : List ℕ) (a b : Ends) → refusal s body ≡ None → s' ≡ began s policy body
    → Talks a b [] [] (sending s.me s.targets (new_call s policy body)) [] → Went (talk s k false) (talk s' k false) a b (Asks policy body ∷ [])
unfolding items_of moments_of
went-asks s s' k policy body a b may is passed =
    went-one (talk s k false) (talk s' k false) a b (Asks policy body) (refl, refl, may) (ap (λ (x : SessionState). talk x k false) is) passed

pub cuts-asks : (s : SessionState) (k : Ticker) (policy : ℕ) (body : List ℕ) (a b : Ends) (prefix rest : List Datagram) (room : ℕ) → refusal s body ≡ None
    → sending s.me s.targets (new_call s policy body) ≡ prefix ++ rest → Talks a b [] [] prefix []
    → CutsSends (record { policy = policy; body = body } ∷ []) room (talk s k false) a b
unfolding items_of moments_of asked_in
cuts-asks s k policy body a b prefix rest room may gives passed =
    cut-one room (talk s k false) a b (Asks policy body) prefix rest (refl, refl, may) (omega arith) gives passed
