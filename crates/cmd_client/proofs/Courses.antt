-- A talk over some steps and then over others.
use Rattle.std.proofs.Common.{◌≡◌, inl, inr, ℕ, ◌+◌, ◌<◌, ◌≤◌, true, false, List, [], ◌∷◌, ◌++◌, length, refl, sym, ap, ◌∙◌, subst, append_assoc, length-append, arith}
use Rattle.std.proofs.lemmas.Grind.{flat_map-append}
use Rattle.r2_base.specs.declared.datagram.Datagram.{Datagram}
use Rattle.r2_link.specs.declared.lane.Item.{Item}
use Rattle.r2_client.specs.declared.call_end.CallEnd.{CallEnd}
use Rattle.r2_client.specs.declared.call_end.CallEnd.TheVariants.{TimedOut as EndTimedOut}
use Rattle.hc_text.specs.End.{end_text}
use Rattle.cmd_status.specs.declared.status.Status.{Status}
use Rattle.cmd_status.specs.declared.status.Status.TheVariants.{Memory, SinkFault, LinkFault, ClockFault, TimedOut, TurnsSpent}
use Rattle.cmd_loop.specs.Ends.{Ends}
use Rattle.cmd_client.specs.Outside.{Talks}
use Rattle.cmd_client.specs.Talk.{AreInTurn, Asked, Asks, Hears, Step, Talk, Tells, asked_in, course, ends_text, items_of, moments_of, taken}
use Rattle.cmd_client.specs.Stops.{CutsLine, CutsSends, Goes, LosesStep, StopsTalk, TimesOut, Took, Waits, Went}
use Rattle.cmd_client.proofs.Passing.{talks-none, talks-then}

pub next-then : (t : Talk) (xs ys : List Step) → (course t (xs ++ ys)).next ≡ (course (course t xs).next ys).next
unfolding course
next-then t [] ys = refl
next-then t (x ∷ xs) ys = next-then (taken t x).next xs ys

pub sends-then : (t : Talk) (xs ys : List Step) → (course t (xs ++ ys)).sends ≡ (course t xs).sends ++ (course (course t xs).next ys).sends
unfolding course
sends-then t [] ys = refl
sends-then t (x ∷ xs) ys =
    ap (λ (l : List Datagram). (taken t x).sends ++ l) (sends-then (taken t x).next xs ys)
    ∙ sym (append_assoc (taken t x).sends (course (taken t x).next xs).sends (course (course (taken t x).next xs).next ys).sends)

pub ends-then : (t : Talk) (xs ys : List Step) → (course t (xs ++ ys)).ends ≡ (course t xs).ends ++ (course (course t xs).next ys).ends
unfolding course
ends-then t [] ys = refl
ends-then t (x ∷ xs) ys =
    ap (λ (l : List CallEnd). (taken t x).ends ++ l) (ends-then (taken t x).next xs ys)
    ∙ sym (append_assoc (taken t x).ends (course (taken t x).next xs).ends (course (course (taken t x).next xs).next ys).ends)

pub text-then : (t : Talk) (xs ys : List Step)
    → ends_text (course t (xs ++ ys)).ends ≡ ends_text (course t xs).ends ++ ends_text (course (course t xs).next ys).ends
text-then t xs ys =
    ap (λ (l : List CallEnd). ends_text l) (ends-then t xs ys) ∙ flat_map-append end_text (course t xs).ends (course (course t xs).next ys).ends

pub items-then : (xs ys : List Step) → items_of (xs ++ ys) ≡ items_of xs ++ items_of ys
unfolding items_of
items-then [] ys = refl
items-then (Asks policy body ∷ xs) ys = items-then xs ys
items-then (Hears item ∷ xs) ys = ap (λ (l : List Item). item ∷ l) (items-then xs ys)
items-then (Tells moment ∷ xs) ys = items-then xs ys

pub moments-then : (xs ys : List Step) → moments_of (xs ++ ys) ≡ moments_of xs ++ moments_of ys
unfolding moments_of
moments-then [] ys = refl
moments-then (Asks policy body ∷ xs) ys = moments-then xs ys
moments-then (Hears item ∷ xs) ys = moments-then xs ys
moments-then (Tells moment ∷ xs) ys = ap (λ (l : List ℕ). moment ∷ l) (moments-then xs ys)

pub in-turn-then : (t : Talk) (xs ys : List Step) → AreInTurn t xs → AreInTurn (course t xs).next ys → AreInTurn t (xs ++ ys)
unfolding course
in-turn-then t [] ys p q = q
in-turn-then t (x ∷ xs) ys p q = (p.0, in-turn-then (taken t x).next xs ys p.1 q)

-- steps whose course is known, and then some more of which this was sent and written
pub took-then : (t u : Talk) (a b c : Ends) (xs ys : List Step) (sends : List Datagram) (text : List ℕ)
    → Went t u a b xs → Took u b c ys sends text
    → Took t a c (xs ++ ys) ((course t xs).sends ++ sends) (ends_text (course t xs).ends ++ text)
took-then t u a b c xs ys sends text went took =
    let passed = talks-then a b c (items_of xs) (items_of ys) (moments_of xs) (moments_of ys) (course t xs).sends sends (ends_text (course t xs).ends) text went.took.passed took.passed in
    record {
      in_turn = in-turn-then t xs ys went.took.in_turn (subst (λ (v : Talk). AreInTurn v ys) went.left took.in_turn);
      passed = subst (λ (is : List Item). Talks a c is (moments_of (xs ++ ys)) ((course t xs).sends ++ sends) (ends_text (course t xs).ends ++ text)) (sym (items-then xs ys))
          (subst (λ (ms : List ℕ). Talks a c (items_of xs ++ items_of ys) ms ((course t xs).sends ++ sends) (ends_text (course t xs).ends ++ text)) (sym (moments-then xs ys)) passed);
    }

pub went-none : (t : Talk) (o : Ends) → Went t t o o []
unfolding course items_of moments_of
went-none t o = record { took = record { in_turn = tt; passed = talks-none o }; left = refl }

pub went-then : (t u v : Talk) (a b c : Ends) (xs ys : List Step) → Went t u a b xs → Went u v b c ys → Went t v a c (xs ++ ys)
went-then t u v a b c xs ys first second =
    let took = took-then t u a b c xs ys (course u ys).sends (ends_text (course u ys).ends) first second.took in
    let sends : (course t xs).sends ++ (course u ys).sends ≡ (course t (xs ++ ys)).sends
    = ap (λ (w : Talk). (course t xs).sends ++ (course w ys).sends) first.left ∙ sym (sends-then t xs ys) in
    let text : ends_text (course t xs).ends ++ ends_text (course u ys).ends ≡ ends_text (course t (xs ++ ys)).ends
    = ap (λ (w : Talk). ends_text (course t xs).ends ++ ends_text (course w ys).ends) first.left ∙ sym (text-then t xs ys) in
    record {
      took = subst (λ (ds : List Datagram). Took t a c (xs ++ ys) ds (ends_text (course t (xs ++ ys)).ends)) sends
          (subst (λ (w : List ℕ). Took t a c (xs ++ ys) ((course t xs).sends ++ (course u ys).sends) w) text took);
      left = second.left ∙ ap (λ (w : Talk). (course w ys).next) first.left ∙ sym (next-then t xs ys);
    }

-- how many items some steps have and then others
pub few-then : (xs ys : List Step) → length (items_of (xs ++ ys)) ≡ length (items_of xs) + length (items_of ys)
few-then xs ys = ap (λ (l : List Item). length l) (items-then xs ys) ∙ length-append (items_of xs) (items_of ys)

asked-then : (xs ys : List Step) → asked_in (xs ++ ys) ≡ asked_in xs ++ asked_in ys
unfolding asked_in
asked-then [] ys = refl
asked-then (Asks policy body ∷ xs) ys = ap (λ (l : List Asked). record { policy = policy; body = body } ∷ l) (asked-then xs ys)
asked-then (Hears item ∷ xs) ys = asked-then xs ys
asked-then (Tells moment ∷ xs) ys = asked-then xs ys

pub asks-then : (xs ys : List Step) (before after : List Asked) → asked_in xs ≡ before → asked_in ys ≡ after → asked_in (xs ++ ys) ≡ before ++ after
asks-then xs ys before after p q = asked-then xs ys ∙ ap (λ (l : List Asked). l ++ asked_in ys) p ∙ ap (λ (l : List Asked). before ++ l) q

asks-last : (xs mid : List Step) (last : Step) (before after : List Asked) → asked_in xs ≡ before → asked_in (mid ++ last ∷ []) ≡ after
    → asked_in ((xs ++ mid) ++ last ∷ []) ≡ before ++ after
asks-last xs mid last before after p q = ap asked_in (append_assoc xs mid (last ∷ [])) ∙ asks-then xs (mid ++ last ∷ []) before after p q

goes-then : (t u : Talk) (a b c : Ends) (xs : List Step) (before after : List Asked) (Then More : Talk → List Step → Type 0)
    → Went t u a b xs → asked_in xs ≡ before → ((v : Talk) (ys : List Step) → Then v ys → More v (xs ++ ys)) → Goes after u b c Then → Goes (before ++ after) t a c More
goes-then t u a b c xs before after Then More went asks on goes = record {
  after = goes.after;
  steps = xs ++ goes.steps;
  went = went-then t u goes.after a b c xs goes.steps went goes.went;
  asks = asks-then xs goes.steps before after asks goes.asks;
  then = on goes.after goes.steps goes.then;
}

-- the talk after more steps is the one after all of them, from the start
last-then : (t u : Talk) (xs before : List Step) → u ≡ (course t xs).next → (course u before).next ≡ (course t (xs ++ before)).next
last-then t u xs before left = ap (λ (w : Talk). (course w before).next) left ∙ sym (next-then t xs before)

sends-from : (t u : Talk) (xs before : List Step) → u ≡ (course t xs).next → (course t xs).sends ++ (course u before).sends ≡ (course t (xs ++ before)).sends
sends-from t u xs before left = ap (λ (w : Talk). (course t xs).sends ++ (course w before).sends) left ∙ sym (sends-then t xs before)

text-from : (t u : Talk) (xs before : List Step) → u ≡ (course t xs).next
    → ends_text (course t xs).ends ++ ends_text (course u before).ends ≡ ends_text (course t (xs ++ before)).ends
text-from t u xs before left = ap (λ (w : Talk). ends_text (course t xs).ends ++ ends_text (course w before).ends) left ∙ sym (text-then t xs before)

within-then : (room more : ℕ) (xs ys : List Step) → length (items_of xs) + more ≡ room → length (items_of ys) ≤ more → length (items_of (xs ++ ys)) ≤ room
within-then room more xs ys sum within = omega (arith, few-then xs ys)

-- what was taken after some steps, with the last step by itself
took-last : (t u : Talk) (a b c : Ends) (xs before : List Step) (last : Step) (sends : List Datagram) (text : List ℕ)
    → Went t u a b xs → Took u b c (before ++ last ∷ []) sends text
    → Took t a c ((xs ++ before) ++ last ∷ []) ((course t xs).sends ++ sends) (ends_text (course t xs).ends ++ text)
took-last t u a b c xs before last sends text went took =
    subst (λ (l : List Step). Took t a c l ((course t xs).sends ++ sends) (ends_text (course t xs).ends ++ text)) (sym (append_assoc xs before (last ∷ [])))
    (took-then t u a b c xs (before ++ last ∷ []) sends text went took)

within-last : (room more : ℕ) (xs before : List Step) (last : Step) → length (items_of xs) + more ≡ room → length (items_of (before ++ last ∷ [])) ≤ more
    → length (items_of ((xs ++ before) ++ last ∷ [])) ≤ room
within-last room more xs before last sum within =
    subst (λ (l : List Step). length (items_of l) ≤ room) (sym (append_assoc xs before (last ∷ []))) (within-then room more xs (before ++ last ∷ []) sum within)

sends-then-cut : (t u : Talk) (a b c : Ends) (xs : List Step) (before after : List Asked) (room more : ℕ) → Went t u a b xs → asked_in xs ≡ before → length (items_of xs) + more ≡ room → CutsSends after more u b c → CutsSends (before ++ after) room t a c
sends-then-cut t u a b c xs before after room more went asks sum cut =
    let took = took-last t u a b c xs cut.before cut.last ((course u cut.before).sends ++ cut.prefix) (ends_text (course u cut.before).ends) went cut.took in
    let sends : (course t xs).sends ++ ((course u cut.before).sends ++ cut.prefix) ≡ (course t (xs ++ cut.before)).sends ++ cut.prefix
    = sym (append_assoc (course t xs).sends (course u cut.before).sends cut.prefix) ∙ ap (λ (l : List Datagram). l ++ cut.prefix) (sends-from t u xs cut.before went.left) in
    record {
      before = xs ++ cut.before;
      last = cut.last;
      prefix = cut.prefix;
      rest = cut.rest;
      gives = subst (λ (w : Talk). (taken w cut.last).sends ≡ cut.prefix ++ cut.rest) (last-then t u xs cut.before went.left) cut.gives;
      took = subst (λ (ds : List Datagram). Took t a c ((xs ++ cut.before) ++ cut.last ∷ []) ds (ends_text (course t (xs ++ cut.before)).ends)) sends
          (subst (λ (w : List ℕ). Took t a c ((xs ++ cut.before) ++ cut.last ∷ []) ((course t xs).sends ++ ((course u cut.before).sends ++ cut.prefix)) w) (text-from t u xs cut.before went.left) took);
      asks = asks-last xs cut.before cut.last before after asks cut.asks;
      within = within-last room more xs cut.before cut.last sum cut.within;
    }

line-then-cut : (t u : Talk) (a b c : Ends) (xs : List Step) (before after : List Asked) (room more : ℕ) → Went t u a b xs → asked_in xs ≡ before → length (items_of xs) + more ≡ room → CutsLine after more u b c → CutsLine (before ++ after) room t a c
line-then-cut t u a b c xs before after room more went asks sum cut =
    let last_sends = (taken (course u cut.before).next cut.last).sends in
    let took = took-last t u a b c xs cut.before cut.last ((course u cut.before).sends ++ last_sends) (ends_text (course u cut.before).ends ++ cut.prefix) went cut.took in
    let next = last-then t u xs cut.before went.left in
    let sends : (course t xs).sends ++ ((course u cut.before).sends ++ last_sends) ≡ (course t (xs ++ cut.before)).sends ++ (taken (course t (xs ++ cut.before)).next cut.last).sends
    = sym (append_assoc (course t xs).sends (course u cut.before).sends last_sends)
    ∙ ap (λ (l : List Datagram). l ++ last_sends) (sends-from t u xs cut.before went.left)
    ∙ ap (λ (w : Talk). (course t (xs ++ cut.before)).sends ++ (taken w cut.last).sends) next in
    let text : ends_text (course t xs).ends ++ (ends_text (course u cut.before).ends ++ cut.prefix) ≡ ends_text (course t (xs ++ cut.before)).ends ++ cut.prefix
    = sym (append_assoc (ends_text (course t xs).ends) (ends_text (course u cut.before).ends) cut.prefix)
    ∙ ap (λ (l : List ℕ). l ++ cut.prefix) (text-from t u xs cut.before went.left) in
    record {
      before = xs ++ cut.before;
      last = cut.last;
      prefix = cut.prefix;
      rest = cut.rest;
      gives = subst (λ (w : Talk). ends_text (taken w cut.last).ends ≡ cut.prefix ++ cut.rest) next cut.gives;
      took = subst (λ (ds : List Datagram). Took t a c ((xs ++ cut.before) ++ cut.last ∷ []) ds (ends_text (course t (xs ++ cut.before)).ends ++ cut.prefix)) sends
          (subst (λ (w : List ℕ). Took t a c ((xs ++ cut.before) ++ cut.last ∷ []) ((course t xs).sends ++ ((course u cut.before).sends ++ last_sends)) w) text took);
      asks = asks-last xs cut.before cut.last before after asks cut.asks;
      within = within-last room more xs cut.before cut.last sum cut.within;
    }

step-then-lost : (t u : Talk) (a b c : Ends) (xs : List Step) (before after : List Asked) (room more : ℕ) → Went t u a b xs → asked_in xs ≡ before → length (items_of xs) + more ≡ room → LosesStep after more u b c → LosesStep (before ++ after) room t a c
step-then-lost t u a b c xs before after room more went asks sum lost =
    let took = took-last t u a b c xs lost.before lost.last (course u lost.before).sends (ends_text (course u lost.before).ends) went lost.took in
    record {
      before = xs ++ lost.before;
      last = lost.last;
      took = subst (λ (ds : List Datagram). Took t a c ((xs ++ lost.before) ++ lost.last ∷ []) ds (ends_text (course t (xs ++ lost.before)).ends)) (sends-from t u xs lost.before went.left)
          (subst (λ (w : List ℕ). Took t a c ((xs ++ lost.before) ++ lost.last ∷ []) ((course t xs).sends ++ (course u lost.before).sends) w) (text-from t u xs lost.before went.left) took);
      asks = asks-last xs lost.before lost.last before after asks lost.asks;
      within = within-last room more xs lost.before lost.last sum lost.within;
    }

times-out-then : (t u : Talk) (xs ys : List Step) → u ≡ (course t xs).next → TimesOut u ys → TimesOut t (xs ++ ys)
times-out-then t u xs ys left out = record {
  before = xs ++ out.before;
  moment = out.moment;
  split = ap (λ (l : List Step). xs ++ l) out.split ∙ sym (append_assoc xs out.before (Tells out.moment ∷ []));
  end = subst (λ (w : Talk). (taken w (Tells out.moment)).ends ≡ EndTimedOut ∷ []) (last-then t u xs out.before left) out.end;
}

-- some steps were taken whole, and then a call stopped
pub stops-then : (t u : Talk) (a b c : Ends) (xs : List Step) (before after : List Asked) (room more : ℕ) (status : Status)
    → Went t u a b xs → asked_in xs ≡ before → length (items_of xs) + more ≡ room → StopsTalk after more u b c status → StopsTalk (before ++ after) room t a c status
stops-then t u a b c xs before after room more TurnsSpent went asks sum stops =
    goes-then t u a b c xs before after (λ v ys. Waits v × (length (items_of ys) ≡ more)) (λ v ys. Waits v × (length (items_of ys) ≡ room)) went asks
    (λ v ys h. (h.0, omega (arith, few-then xs ys, h.1, sum))) stops
stops-then t u a b c xs before after room more ClockFault went asks sum stops =
    goes-then t u a b c xs before after (λ v ys. (v.over ≡ false) × (v.heard ≡ true) × (length (items_of ys) ≤ more)) (λ v ys. (v.over ≡ false) × (v.heard ≡ true) × (length (items_of ys) ≤ room)) went asks
    (λ v ys h. (h.0, h.1, omega (arith, few-then xs ys, h.2, sum))) stops
stops-then t u a b c xs before after room more LinkFault went asks sum (inl stops) =
    inl (goes-then t u a b c xs before after (λ v ys. Waits v × (length (items_of ys) < more)) (λ v ys. Waits v × (length (items_of ys) < room)) went asks
    (λ v ys h. (h.0, omega (arith, few-then xs ys, h.1, sum))) stops)
stops-then t u a b c xs before after room more LinkFault went asks sum (inr cut) = inr (sends-then-cut t u a b c xs before after room more went asks sum cut)
stops-then t u a b c xs before after room more SinkFault went asks sum cut = line-then-cut t u a b c xs before after room more went asks sum cut
stops-then t u a b c xs before after room more TimedOut went asks sum stops =
    goes-then t u a b c xs before after (λ v ys. TimesOut u ys × (length (items_of ys) ≤ more)) (λ v ys. TimesOut t ys × (length (items_of ys) ≤ room)) went asks
    (λ v ys h. (times-out-then t u xs ys went.left h.0, omega (arith, few-then xs ys, h.1, sum))) stops
stops-then t u a b c xs before after room more Memory went asks sum (inl stops) =
    inl (goes-then t u a b c xs before after (λ v ys. length (items_of ys) ≤ more) (λ v ys. length (items_of ys) ≤ room) went asks
    (λ v ys h. omega (arith, few-then xs ys, h, sum)) stops)
stops-then t u a b c xs before after room more Memory went asks sum (inr (inl cut)) = inr (inl (line-then-cut t u a b c xs before after room more went asks sum cut))
stops-then t u a b c xs before after room more Memory went asks sum (inr (inr lost)) = inr (inr (step-then-lost t u a b c xs before after room more went asks sum lost))
stops-then t u a b c xs before after room more _ went asks sum stops = absurd stops
