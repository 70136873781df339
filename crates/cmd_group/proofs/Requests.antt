-- The requests of calls that keep their addresses apart are new.
use Rattle.std.proofs.Common.{◌≡◌, ℕ, suc, ◌+◌, ◌==◌, ◌<◌, ◌≤◌, Bool, true, false, List, [], ◌∷◌, ◌++◌, length, refl, sym, ap, ◌∙◌, subst, append_assoc, arith, inl, inr}
use Rattle.std.specs.Prelude.{if◌then◌else◌}
use Rattle.r2_base.specs.Entry.{is_request}
use Rattle.r2_base.specs.Limits.{most_body}
use Rattle.r2_base.specs.Names.{same_addr}
use Rattle.r2_base.specs.Numbers.{AreBytes}
use Rattle.r2_base.specs.declared.addr.Addr.{Addr}
use Rattle.r2_base.specs.declared.entry.Kind.TheVariants.{Read, Write}
use Rattle.r2_base.proofs.SameNames.{same_addr-same}
use Rattle.r2_header.specs.Policy.{replicated_read}
use Rattle.hc_rules.specs.Log.{In}
use Rattle.hc_rules.specs.Message.{Request}
use Rattle.hc_run.specs.Events.{IsNew}
use Rattle.cmd_client.specs.Talk.{Asked}
use Rattle.cmd_group.specs.Asked.{AreInTheirOrder, AreNew, ClientsMayAsk, of_client, request_of_call, requests_of}

-- One client --

-- a request that comes among those of a client's calls, after some and before some
record IsItsNext (me : Addr) (id : ℕ) (calls : List Asked) (before : List Request) (q : Request) : Type 0 where
  call : Asked
  there : In call calls
  is : q ≡ request_of_call me (id + length before) call
  room : length before < length calls
  earlier : (r : Request) → In r before → r.rid.id < id + length before

next-of : (me : Addr) (id : ℕ) (calls : List Asked) (before : List Request) (q : Request) (after : List Request) → requests_of me id calls ≡ before ++ q ∷ after
    → IsItsNext me id calls before q
next-of me id [] [] q after same = absurd (cc (same))
next-of me id [] (x ∷ before) q after same = absurd (cc (same))
next-of me id (call ∷ calls) [] q after same =
    let is : request_of_call me id call ≡ q = cc in
    let e : id ≡ id + 0 = omega arith in
    record {
      call = call;
      there = inl refl;
      is = sym is ∙ ap (λ (k : ℕ). request_of_call me k call) e;
      room = omega arith;
      earlier = λ r there. absurd there;
    }
next-of me id (call ∷ calls) (x ∷ before) q after same =
    let first : request_of_call me id call ≡ x = cc in
    let rest : requests_of me (suc id) calls ≡ before ++ q ∷ after = cc in
    let one = next-of me (suc id) calls before q after rest in
    let room = one.room in
    let e : suc id + length before ≡ id + suc (length before) = omega arith in
    record {
      call = one.call;
      there = inr one.there;
      is = one.is ∙ ap (λ (k : ℕ). request_of_call me k one.call) e;
      room = omega (arith, room);
      earlier = λ r there.
          elim there [
            | inl here ↦ (let at : r.rid.id ≡ id = ap (λ (y : Request). y.rid.id) (here ∙ sym first) in omega (arith, at))
            | inr later ↦ (let less = one.earlier r later in omega (arith, less))
          ];
    }

asks-by : (b : Bool) → is_request (if b then Read else Write) ≡ true
asks-by true = refl
asks-by false = refl

-- Many clients --

first-append : (t : Bool) (q : Request) (l a b : List Request) → l ≡ a ++ b → (if t then q ∷ l else l) ≡ (if t then q ∷ a else a) ++ b
first-append true q l a b same = ap (λ (x : List Request). q ∷ x) same
first-append false q l a b same = same

of-append : (me : Addr) (a b : List Request) → of_client me (a ++ b) ≡ of_client me a ++ of_client me b
of-append me [] b = refl
of-append me (q ∷ a) b = first-append (same_addr q.rid.client me) q (of_client me (a ++ b)) (of_client me a) (of_client me b) (of-append me a b)

in-rest : (t : Bool) (x q : Request) (l : List Request) → In q l → In q (if t then x ∷ l else l)
in-rest true x q l there = inr there
in-rest false x q l there = there

-- a request is among those of its client
of-in : (me : Addr) (l : List Request) (q : Request) → q.rid.client ≡ me → In q l → In q (of_client me l)
of-in me [] q same there = there
of-in me (x ∷ l) q same (inl here) =
    let yes-same : same_addr x.rid.client me ≡ true = subst (λ (a : Addr). same_addr x.rid.client a ≡ true) (ap (λ (y : Request). y.rid.client) (sym here) ∙ same) (same_addr-same x.rid.client) in
    rw yes-same (inl here)
of-in me (x ∷ l) q same (inr later) = in-rest (same_addr x.rid.client me) x q (of_client me l) (of-in me l q same later)

first-of : (q : Request) (l : List Request) → of_client q.rid.client (q ∷ l) ≡ q ∷ of_client q.rid.client l
first-of q l = rw (same_addr-same q.rid.client) refl

module _ (calls : Addr → List Asked) (all : List Request) (are : AreInTheirOrder calls all) where
  one-new : (table : List Request) (q : Request) (more : List Request) → table ++ q ∷ more ≡ all → IsNew table q
  one-new table q more same =
      let me = q.rid.client in
      let before = of_client me table in
      let order : requests_of me 0 (calls me) ≡ before ++ q ∷ (of_client me more ++ are.unasked me) =
      are.order me ∙ ap (λ (l : List Request). of_client me l ++ are.unasked me) (sym same)
      ∙ ap (λ (l : List Request). l ++ are.unasked me) (of-append me table (q ∷ more) ∙ ap (λ (l : List Request). before ++ l) (first-of q more))
      ∙ append_assoc before (q ∷ of_client me more) (are.unasked me) in
      let is = next-of me 0 (calls me) before q (of_client me more ++ are.unasked me) order in
      let may = are.may me in
      let room = is.room in
      let few = may.few in
      let made = may.each is.call is.there in
      let at : q.rid.id ≡ 0 + length before = ap (λ (y : Request). y.rid.id) is.is in
      record {
        fits = record { id = omega (arith, room, few, at); client = made.fits };
        fresh =
            λ known.
            let names = known.named in
            let r = known.request in
            let less = is.earlier r (of-in me table r (ap (λ y. y.client) names) known.sent) in
            let same_id = ap (λ y. y.id) names in
            omega (arith, less, same_id, at);
        asks = subst (λ k. is_request k ≡ true) (sym (ap (λ (y : Request). y.kind) is.is)) (asks-by (is.call.policy == replicated_read));
        short = subst (λ (b : List ℕ). length b ≤ most_body) (sym (ap (λ (y : Request). y.body) is.is)) made.short;
        bytes = subst AreBytes (sym (ap (λ (y : Request). y.body) is.is)) made.bytes;
      }

  all-new : (table more : List Request) → table ++ more ≡ all → AreNew table more
  all-new table [] same = tt
  all-new table (q ∷ more) same = (one-new table q more same, all-new (table ++ q ∷ []) more (append_assoc table (q ∷ []) more ∙ same))

pub clients_may_ask : ClientsMayAsk
clients_may_ask calls requests are = all-new calls requests are [] requests refl
