-- What a session is at a moment.
use Rattle.std.specs.Prelude.{ℕ, List, [], Option, None}
use Rattle.r2_base.specs.declared.addr.Addr.{Addr}
use Rattle.r2_frag.specs.declared.unfinished.Unfinished.{Unfinished}
use Rattle.r2_client.specs.declared.open_call.OpenCall.{OpenCall}

-- its address, the addresses that it sends to, the ticks that it waits for a reply and how often it sends a request at most,
-- the id of its next request, the call that waits for its reply, and the replies that aren't whole yet
pub record SessionState : Type 0 where
  pub me : Addr
  pub targets : List Addr
  pub wait : ℕ
  pub tries : ℕ
  pub next : ℕ
  pub open_call : Option OpenCall
  pub unfinished : List Unfinished

-- a session that made no call yet, and whose first request will have this id
abbrev pub session_from : Addr → List Addr → ℕ → ℕ → ℕ → SessionState
session_from me targets wait tries first =
    record { me = me; targets = targets; wait = wait; tries = tries; next = first; open_call = None; unfinished = [] }

-- a session that made no call yet
abbrev pub new_session : Addr → List Addr → ℕ → ℕ → SessionState
new_session me targets wait tries = session_from me targets wait tries 0
