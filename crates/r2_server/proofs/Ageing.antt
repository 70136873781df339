-- How the list of requests that age follows the list of unfinished messages.
use Rattle.std.proofs.Common.{◌≡◌, ◌==◌, ◌∙◌, ℕ, inl, inr, Bool, true, false, is_some, List, [], ◌∷◌, ◌++◌, Option, Some, None, refl, sym, ap, subst}
use Rattle.std.specs.Prelude.{◌||◌}
use Rattle.std.specs.List.{All, find, list_any}
use Rattle.std.proofs.lemmas.Bool.{cases_Bool, false_from_ne_true}
use Rattle.std.proofs.lemmas.List.Elements.{All-cons, All-filter, All-head, All-nil, All-tail}
use Rattle.std.proofs.lemmas.List.{append-nil}
use Rattle.r2_base.specs.Names.{same_rid}
use Rattle.r2_base.proofs.SameNames.{same_rid-same, same_rid-true}
use Rattle.r2_header.specs.Policy.{jbsq}
use Rattle.r2_frag.specs.declared.key.Key.{Key}
use Rattle.r2_frag.specs.declared.unfinished.Unfinished.{Unfinished}
use Rattle.r2_frag.specs.Assembly.{is_begun, is_of, put, without}
use Rattle.r2_frag.specs.Keys.{same_key}
use Rattle.r2_frag.specs.Pending.{AreDistinct}
use Rattle.r2_frag.proofs.Finding.{same_key-comm}
use Rattle.r2_frag.proofs.SameKeys.{same_key-same, same_key-true}
use Rattle.r2_server.specs.declared.timers.Timer.{Timer}
use Rattle.r2_server.specs.Ages.{ageing, is_jbsq}
use Rattle.r2_server.specs.Timers.{due, given_up, is_due, is_for, key_for, not_due, started, started_for, stopped, stopped_for}

-- a message's key is that of its request, where it is under JBSQ
abbrev pub IsKnown : Unfinished → Type 0
IsKnown m = is_jbsq m ≡ true → m.key ≡ key_for m.key.rid

-- the timer of a message
abbrev timer_of : (Key → ℕ) → Unfinished → Timer
timer_of since m = record { rid = m.key.rid; began = since m.key }

-- a key that messages have, others before them or not
begun-after : (key : Key) (m : Unfinished) (rest : List Unfinished) → is_begun key rest ≡ true → is_begun key (m ∷ rest) ≡ true
unfolding is_begun
begun-after key m rest e =
    elim (cases_Bool (is_of key m)) [ inl t ↦ rw t refl | inr f ↦ rw f e ]

begun-here : (m : Unfinished) (rest : List Unfinished) → is_begun m.key (m ∷ rest) ≡ true
unfolding is_begun
begun-here m rest = rw (same_key-same m.key) refl

-- what holds of each key that messages have
pub each-begun : (P : Key → Type 0) (messages : List Unfinished) → ((key : Key) → is_begun key messages ≡ true → P key) → All (λ (m : Unfinished). P m.key) messages
each-begun P [] h = All-nil (λ (m : Unfinished). P m.key)
each-begun P (m ∷ rest) h =
    All-cons (λ (m : Unfinished). P m.key) m rest (h m.key (begun-here m rest)) (each-begun P rest (λ key e. h key (begun-after key m rest e)))

module _ (since : Key → ℕ) where
  -- one message more, before the others
  ageing-routed : (m : Unfinished) (rest : List Unfinished) → is_jbsq m ≡ true → ageing since (m ∷ rest) ≡ timer_of since m ∷ ageing since rest
  ageing-routed m rest t = rw t refl

  ageing-other : (m : Unfinished) (rest : List Unfinished) → is_jbsq m ≡ false → ageing since (m ∷ rest) ≡ ageing since rest
  ageing-other m rest f = rw f refl

  -- ages that are the same for each message
  pub ageing-same : (later : Key → ℕ) (messages : List Unfinished) → All (λ (m : Unfinished). since m.key ≡ later m.key) messages → ageing since messages ≡ ageing later messages
  ageing-same later [] all = refl
  ageing-same later (m ∷ rest) all =
      let here = All-head (λ (m : Unfinished). since m.key ≡ later m.key) m rest all in
      let tail = ageing-same later rest (All-tail (λ (m : Unfinished). since m.key ≡ later m.key) m rest all) in
      elim (cases_Bool (is_jbsq m)) [ inl t ↦ rw (t, here, tail) refl | inr f ↦ rw f tail ]

  -- one message in the place of that with its key
  pub ageing-put : (next : Unfinished) (messages : List Unfinished) → ageing since (put next messages) ≡ ageing since messages
  unfolding put
  ageing-put next [] = refl
  ageing-put next (m ∷ rest) =
      elim (cases_Bool (is_of next.key m)) [
        | inl t ↦
            (let same : m.key ≡ next.key = same_key-true m.key next.key t in
            let here : is_jbsq next ≡ is_jbsq m = ap (λ (k : Key). k.policy == jbsq) (sym same) in
            elim (cases_Bool (is_jbsq m)) [
              | inl r ↦ rw (t, here, r, same) refl
              | inr r ↦ rw (t, here, r) refl
            ])
        | inr f ↦
            (let tail = ageing-put next rest in
            elim (cases_Bool (is_jbsq m)) [ inl r ↦ rw (f, r, tail) refl | inr r ↦ rw (f, r) tail ])
      ]

  -- one message more at the end
  ageing-push : (messages : List Unfinished) (next : Unfinished) → ageing since (messages ++ next ∷ []) ≡ ageing since messages ++ ageing since (next ∷ [])
  ageing-push [] next = refl
  ageing-push (m ∷ rest) next =
      let tail = ageing-push rest next in
      elim (cases_Bool (is_jbsq m)) [ inl r ↦ rw (r, tail) refl | inr r ↦ rw r tail ]

  -- a message of another policy leaves
  pub ageing-without_other : (key : Key) (messages : List Unfinished) → (key.policy == jbsq) ≡ false → ageing since (without key messages) ≡ ageing since messages
  unfolding without
  ageing-without_other key [] other = refl
  ageing-without_other key (m ∷ rest) other =
      elim (cases_Bool (is_of key m)) [
        | inl t ↦
            (let same : m.key ≡ key = same_key-true m.key key t in
            let here : is_jbsq m ≡ false = ap (λ (k : Key). k.policy == jbsq) same ∙ other in
            rw (t, here) refl)
        | inr f ↦
            (let tail = ageing-without_other key rest other in
            elim (cases_Bool (is_jbsq m)) [ inl r ↦ rw (f, r, tail) refl | inr r ↦ rw (f, r) tail ])
      ]

-- a message with another key than a request's isn't of that request
apart : (key : Key) (m : Unfinished) → IsKnown m → is_jbsq m ≡ true → key ≡ key_for key.rid → is_of key m ≡ false → same_rid m.key.rid key.rid ≡ false
apart key m known routed is other =
    false_from_ne_true (same_rid m.key.rid key.rid) (λ t.
    let rid : m.key.rid ≡ key.rid = same_rid-true m.key.rid key.rid t in
    let same : m.key ≡ key = known routed ∙ ap key_for rid ∙ sym is in
    let here : same_key m.key key ≡ true = subst (λ (k : Key). same_key k key ≡ true) (sym same) (same_key-same key) in
    let clash : true ≡ false = sym here ∙ other in
    cc)

-- what isn't found isn't the first, nor among the others
not_first : (p : Unfinished → Bool) (m : Unfinished) (rest : List Unfinished) → find p (m ∷ rest) ≡ None → (p m ≡ false) × (find p rest ≡ None)
not_first p m rest e =
    elim (cases_Bool (p m)) [
      | inl t ↦ (let some = rw t at e in cc)
      | inr f ↦ (f, rw f at e)
    ]

-- nothing of a request stops where nothing of it is unfinished
none_stops : (since : Key → ℕ) (key : Key) (rest : List Unfinished) → key ≡ key_for key.rid → All IsKnown rest → find (is_of key) rest ≡ None
    → stopped key.rid (ageing since rest) ≡ ageing since rest
unfolding stopped
none_stops since key [] is known none = refl
none_stops since key (m ∷ rest) is known none =
    let parts = not_first (is_of key) m rest none in
    let tail = none_stops since key rest is (All-tail IsKnown m rest known) parts.1 in
    elim (cases_Bool (is_jbsq m)) [
      | inl r ↦
          (let other = apart key m (All-head IsKnown m rest known) r is parts.0 in
          rw r (rw other (ap (λ (ts : List Timer). timer_of since m ∷ ts) tail)))
      | inr r ↦ rw r tail
    ]

-- a request leaves
pub ageing-without_this : (since : Key → ℕ) (key : Key) (messages : List Unfinished) → key ≡ key_for key.rid → AreDistinct messages → All IsKnown messages
    → ageing since (without key messages) ≡ stopped key.rid (ageing since messages)
unfolding without stopped
ageing-without_this since key [] is d known = refl
ageing-without_this since key (m ∷ rest) is d known =
    elim (cases_Bool (is_of key m)) [
      | inl t ↦
          (let same : m.key ≡ key = same_key-true m.key key t in
          let routed : is_jbsq m ≡ true = ap (λ (k : Key). k.policy == jbsq) (same ∙ is) in
          let rid : same_rid m.key.rid key.rid ≡ true = subst (λ (k : Key). same_rid k.rid key.rid ≡ true) (sym same) (same_rid-same key.rid) in
          let none : find (is_of key) rest ≡ None = subst (λ (k : Key). find (is_of k) rest ≡ None) same d.0 in
          let tail = none_stops since key rest is (All-tail IsKnown m rest known) none in
          rw (t, routed) (rw rid (sym tail)))
      | inr f ↦
          (let tail = ageing-without_this since key rest is d.1 (All-tail IsKnown m rest known) in
          elim (cases_Bool (is_jbsq m)) [
            | inl r ↦
                (let other = apart key m (All-head IsKnown m rest known) r is f in
                rw (f, r) (rw other (ap (λ (ts : List Timer). timer_of since m ∷ ts) tail)))
            | inr r ↦ rw (f, r) tail
          ])
    ]

-- a request that isn't unfinished doesn't age
none_ages : (since : Key → ℕ) (key : Key) (rest : List Unfinished) → key ≡ key_for key.rid → All IsKnown rest → find (is_of key) rest ≡ None
    → list_any (is_for key.rid) (ageing since rest) ≡ false
none_ages since key [] is known none = refl
none_ages since key (m ∷ rest) is known none =
    let parts = not_first (is_of key) m rest none in
    let tail = none_ages since key rest is (All-tail IsKnown m rest known) parts.1 in
    elim (cases_Bool (is_jbsq m)) [
      | inl r ↦
          (let other = apart key m (All-head IsKnown m rest known) r is parts.0 in
          rw r (rw other tail))
      | inr r ↦ rw r tail
    ]

-- one that is does
some_ages : (since : Key → ℕ) (key : Key) (messages : List Unfinished) → (key.policy == jbsq) ≡ true → is_some (find (is_of key) messages) ≡ true
    → list_any (is_for key.rid) (ageing since messages) ≡ true
some_ages since key [] routed e = cc
some_ages since key (m ∷ rest) routed e =
    elim (cases_Bool (is_of key m)) [
      | inl t ↦
          (let same : m.key ≡ key = same_key-true m.key key t in
          let here : is_jbsq m ≡ true = ap (λ (k : Key). k.policy == jbsq) same ∙ routed in
          let rid : same_rid m.key.rid key.rid ≡ true = subst (λ (k : Key). same_rid k.rid key.rid ≡ true) (sym same) (same_rid-same key.rid) in
          rw here (rw rid refl))
      | inr f ↦
          (let tail = some_ages since key rest routed (rw f at e) in
          elim (cases_Bool (is_jbsq m)) [
            | inl r ↦ rw r (rw tail (or_true (same_rid m.key.rid key.rid)))
            | inr r ↦ rw r tail
          ])
    ]
  where
    or_true : (b : Bool) → (b || true) ≡ true
    or_true true = refl
    or_true false = refl

not_some : (o : Option Unfinished) → is_some o ≡ false → o ≡ None
not_some None e = refl
not_some (Some m) e = cc

-- a message that begins ages from this tick on
pub ageing-begun : (since : Key → ℕ) (next : Unfinished) (messages : List Unfinished) → IsKnown next → All IsKnown messages → is_begun next.key messages ≡ false
    → ageing since (messages ++ next ∷ []) ≡ started_for next.key (since next.key) (ageing since messages)
unfolding is_begun started
ageing-begun since next messages is known new =
    let none : find (is_of next.key) messages ≡ None = not_some (find (is_of next.key) messages) new in
    let pushed = ageing-push since messages next in
    elim (cases_Bool (is_jbsq next)) [
      | inl r ↦
          (let first = none_ages since next.key messages (is r) known none in
          rw pushed (rw (r, first) refl))
      | inr r ↦ rw pushed (rw r (append-nil (ageing since messages)))
    ]

-- and one that goes on ages as before
pub ageing-going : (since : Key → ℕ) (key : Key) (tick : ℕ) (messages : List Unfinished) → is_begun key messages ≡ true
    → started_for key tick (ageing since messages) ≡ ageing since messages
unfolding is_begun started
ageing-going since key tick messages begun =
    elim (cases_Bool (key.policy == jbsq)) [
      | inl r ↦ rw r (rw (some_ages since key messages r begun) refl)
      | inr r ↦ rw r refl
    ]

-- a message leaves
pub ageing-without : (since : Key → ℕ) (key : Key) (messages : List Unfinished) → ((key.policy == jbsq) ≡ true → key ≡ key_for key.rid) → AreDistinct messages → All IsKnown messages
    → ageing since (without key messages) ≡ stopped_for key (ageing since messages)
ageing-without since key messages is d known =
    elim (cases_Bool (key.policy == jbsq)) [
      | inl r ↦ rw r (ageing-without_this since key messages (is r) d known)
      | inr r ↦ rw r (ageing-without_other since key messages r)
    ]

-- the first message stays where others are given up
keeps_first : (late : List Timer) (m : Unfinished) (rest : List Unfinished) → All (λ (t : Timer). is_of (key_for t.rid) m ≡ false) late
    → given_up late (m ∷ rest) ≡ m ∷ given_up late rest
unfolding given_up without
keeps_first [] m rest all = refl
keeps_first (t ∷ late) m rest all =
    let other = All-head (λ (t : Timer). is_of (key_for t.rid) m ≡ false) t late all in
    let tail = keeps_first late m (without (key_for t.rid) rest) (All-tail (λ (t : Timer). is_of (key_for t.rid) m ≡ false) t late all) in
    rw other tail

-- no request that ages among the others is the first
others_age : (since : Key → ℕ) (m : Unfinished) (rest : List Unfinished) → All IsKnown rest → find (is_of m.key) rest ≡ None
    → All (λ (t : Timer). is_of (key_for t.rid) m ≡ false) (ageing since rest)
others_age since m [] known none = All-nil (λ (t : Timer). is_of (key_for t.rid) m ≡ false)
others_age since m (n ∷ rest) known none =
    let parts = not_first (is_of m.key) n rest none in
    let tail = others_age since m rest (All-tail IsKnown n rest known) parts.1 in
    elim (cases_Bool (is_jbsq n)) [
      | inl r ↦
          (let apart : same_key m.key n.key ≡ false = same_key-comm n.key m.key parts.0 in
          let here : same_key m.key (key_for n.key.rid) ≡ false = subst (λ (k : Key). same_key m.key k ≡ false) (All-head IsKnown n rest known r) apart in
          rw r (All-cons (λ (t : Timer). is_of (key_for t.rid) m ≡ false) (timer_of since n) (ageing since rest) here tail))
      | inr r ↦ rw r tail
    ]

-- the first message is given up
gives_up_first : (t : Timer) (late : List Timer) (m : Unfinished) (rest : List Unfinished) → is_of (key_for t.rid) m ≡ true → given_up (t ∷ late) (m ∷ rest) ≡ given_up late rest
unfolding given_up without
gives_up_first t late m rest here = rw here refl

-- a timer that is due, or isn't
due-yes : (tick : ℕ) (t : Timer) (ts : List Timer) → is_due tick t ≡ true → (due tick (t ∷ ts) ≡ t ∷ due tick ts) × (not_due tick (t ∷ ts) ≡ not_due tick ts)
unfolding due not_due
due-yes tick t ts e = (rw e refl, rw e refl)

due-no : (tick : ℕ) (t : Timer) (ts : List Timer) → is_due tick t ≡ false → (due tick (t ∷ ts) ≡ due tick ts) × (not_due tick (t ∷ ts) ≡ t ∷ not_due tick ts)
unfolding due not_due
due-no tick t ts e = (rw e refl, rw e refl)

-- the requests that are due leave
pub ageing-due : (since : Key → ℕ) (tick : ℕ) (messages : List Unfinished) → AreDistinct messages → All IsKnown messages
    → ageing since (given_up (due tick (ageing since messages)) messages) ≡ not_due tick (ageing since messages)
unfolding due not_due given_up
ageing-due since tick [] d known = refl
ageing-due since tick (m ∷ rest) d known =
    let behind = All-tail IsKnown m rest known in
    let tail = ageing-due since tick rest d.1 behind in
    let ts : List Timer = ageing since rest in
    let t : Timer = timer_of since m in
    let late : List Timer = due tick ts in
    let others = All-filter (is_due tick) (λ (t : Timer). is_of (key_for t.rid) m ≡ false) ts (others_age since m rest behind d.0) in
    let stays = keeps_first late m rest others in
    let F : List Timer → List Timer = λ l. ageing since (given_up l (m ∷ rest)) in
    elim (cases_Bool (is_jbsq m)) [
      | inr r ↦
          (let a = ageing-other since m rest r in
          ap (λ (l : List Timer). F (due tick l)) a ∙ ap (ageing since) stays ∙ ageing-other since m (given_up late rest) r ∙ tail ∙ ap (not_due tick) (sym a))
      | inl r ↦
          (let a = ageing-routed since m rest r in
          elim (cases_Bool (is_due tick t)) [
            | inl is_now ↦
                (let here : is_of (key_for m.key.rid) m ≡ true = subst (λ (k : Key). same_key m.key k ≡ true) (All-head IsKnown m rest known r) (same_key-same m.key) in
                let parts = due-yes tick t ts is_now in
                ap (λ (l : List Timer). F (due tick l)) a ∙ ap F parts.0 ∙ ap (ageing since) (gives_up_first t late m rest here) ∙ tail ∙ sym (ap (not_due tick) a ∙ parts.1))
            | inr not_yet ↦
                (let parts = due-no tick t ts not_yet in
                ap (λ (l : List Timer). F (due tick l)) a ∙ ap F parts.0 ∙ ap (ageing since) stays ∙ ageing-routed since m (given_up late rest) r ∙ ap (λ (l : List Timer). t ∷ l) tail ∙ sym (ap (not_due tick) a ∙ parts.1))
          ])
    ]

-- the first message leaves
pub without-first : (m : Unfinished) (rest : List Unfinished) → without m.key (m ∷ rest) ≡ rest
unfolding without
without-first m rest = rw (same_key-same m.key) refl

-- a key that no message has, no message after the first has
pub begun-others : (key : Key) (m : Unfinished) (rest : List Unfinished) → is_begun key (m ∷ rest) ≡ false → is_begun key rest ≡ false
unfolding is_begun
begun-others key m rest e =
    elim (cases_Bool (is_of key m)) [
      | inl t ↦ (let some = rw t at e in cc)
      | inr f ↦ rw f at e
    ]
