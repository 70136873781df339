-- A client sends a request, and the aggregator begins anew.
use Rattle.std.proofs.Common.{append-nil, ◌+◌, List, [], ◌∷◌, ◌++◌, length, refl, sym, ap, subst, arith, inl}
use Rattle.std.specs.Prelude.{All}
use Rattle.std.specs.List.{flat_map}
use Rattle.std.proofs.lemmas.List.Concat.{flat_map-cons}
use Rattle.std.proofs.lemmas.List.Elements.{All-append, All-cons, All-nil}
use Rattle.r2_base.specs.declared.addr.Addr.{Addr}
use Rattle.r2_frag.specs.Parts.{parts_of}
use Rattle.hc_aggregate.specs.Tally.{no_tally}
use Rattle.hc_aggregate.proofs.Tallies.{tally_begun}
use Rattle.hc_rules.specs.Conditions.{MaySend}
use Rattle.hc_rules.specs.Log.{In}
use Rattle.hc_rules.specs.Message.{Request}
use Rattle.hc_rules.specs.Protocol.{ProtocolState}
use Rattle.hc_rules.specs.Requests.{IsKnown}
use Rattle.hc_rules.specs.Rules.{Forget as ForgetRule, SendRequest, after}
use Rattle.hc_rules.proofs.Logs.{in_last}
use Rattle.hc_run.specs.Group.{Group, setup_of}
use Rattle.hc_run.specs.State.{GroupState}
use Rattle.hc_run.specs.Events.{ClientSend, Forget, IsNew}
use Rattle.hc_run.specs.Backed.{IsBackedDatagram}
use Rattle.hc_run.specs.Held.{IsAsked}
use Rattle.hc_run.specs.Shows.{Shows}
use Rattle.hc_run.specs.StepLaws.{IsStepRules, LeadsTo}
use Rattle.hc_run.specs.Steps.{asked, request_parts, request_spec, step}
use Rattle.hc_run.specs.Tied.{IsTiedTally}
use Rattle.hc_run.proofs.Aggregating.{zeros}
use Rattle.hc_run.proofs.Places.{leads-stays}
use Rattle.hc_run.proofs.Items.{all-in}
use Rattle.hc_run.proofs.SentDatagrams.{parts-between}
use Rattle.hc_run.proofs.Sparing.{aggregators_spare, clients_spare}
use Rattle.hc_run.proofs.Stretches.{leads-counted}

-- Clients --

-- the parts of a request of the table are backed
parts-backed : (members : List Addr) (w : ProtocolState) (q : Request) (to : Addr) → In q w.table → All (IsBackedDatagram members w) (parts_of (request_spec q to) q.body)
parts-backed members w q to sent =
    all-in (IsBackedDatagram members w) (parts_of (request_spec q to) q.body)
    (λ d part. inl (record {
      request = q;
      sent = sent;
      part = subst (λ (a : Addr). In d (parts_of (request_spec q a) q.body)) (sym (parts-between (request_spec q to) q.body d part).1) part;
    }))

all-parts-backed : (members to : List Addr) (w : ProtocolState) (q : Request) → In q w.table
    → All (IsBackedDatagram members w) (flat_map (λ (a : Addr). parts_of (request_spec q a) q.body) to)
all-parts-backed members [] w q sent = All-nil (IsBackedDatagram members w)
all-parts-backed members (a ∷ to) w q sent =
    rw (flat_map-cons (λ (b : Addr). parts_of (request_spec q b) q.body) a to)
    (All-append (IsBackedDatagram members w) (parts_of (request_spec q a) q.body) (flat_map (λ (b : Addr). parts_of (request_spec q b) q.body) to)
    (parts-backed members w q a sent) (all-parts-backed members to w q sent))

asked-becomes : (g : Group) (w : ProtocolState) (s : GroupState) (q : Request) → Shows g w s → IsNew s.table q → LeadsTo g w (asked g q s)
unfolding asked request_parts
asked-becomes g w s q shows new =
    let rules = SendRequest q ∷ [] in
    let x = after w (SendRequest q) in
    let may : MaySend w q =
    record { fresh = λ known. new.fresh (subst (λ (t : List Request). IsKnown t q.rid) shows.table known); asks = new.asks } in
    let spared = (clients_spare (setup_of g 0) w rules shows.kept (refl, tt) (may, tt)).0 in
    let is : IsAsked q = record { fits = new.fits; asks = new.asks; short = new.short } in
    leads-stays g w s (asked g q s) (request_parts g q) rules shows
    (record {
      allowed = (may, tt);
      spared = spared;
      replicas = refl;
      aggregator = shows.aggregator;
      tally = shows.tally;
      table = ap (λ (t : List Request). t ++ q ∷ []) shows.table;
      asked = All-append IsAsked s.table (q ∷ []) shows.asked (All-cons IsAsked q [] is (All-nil IsAsked));
      passed = shows.passed;
      reports = shows.reports;
      replied = refl;
      sent = all-parts-backed g.members g.members x q (in_last q w.table);
      datagrams = refl;
    })

pub asked-step : (g : Group) (w : ProtocolState) (s : GroupState) (q : Request) → Shows g w s → IsNew s.table q → IsStepRules g w s (ClientSend q)
unfolding step
asked-step g w s q shows new = let t = asked g q s in leads-counted g w t (t.events + 1) t.crashes (asked-becomes g w s q shows new)

-- The aggregator --

forget-becomes : (g : Group) (w : ProtocolState) (s : GroupState) → Shows g w s → LeadsTo g w (record s { tally = no_tally (length g.members) })
forget-becomes g w s shows =
    let rules = ForgetRule ∷ [] in
    let x = after w ForgetRule in
    let spared = (aggregators_spare (setup_of g 0) w rules shows.kept (refl, tt) (tt, tt)).0 in
    let anew : IsTiedTally x.aggregator (no_tally (length g.members)) =
    record { term = refl; leader = refl; start = refl; reached = λ p. sym (zeros (length g.members) p) } in
    leads-stays g w s (record s { tally = no_tally (length g.members) }) [] rules shows
    (record {
      allowed = (tt, tt);
      spared = spared;
      replicas = refl;
      aggregator = anew;
      tally = tally_begun (length g.members) 0 0 0 (omega arith) (λ some. absurd (omega (arith, some)));
      table = shows.table;
      asked = shows.asked;
      passed = shows.passed;
      reports = shows.reports;
      replied = refl;
      sent = All-nil (IsBackedDatagram g.members x);
      datagrams = sym (append-nil s.datagrams);
    })

pub forget-step : (g : Group) (w : ProtocolState) (s : GroupState) → Shows g w s → IsStepRules g w s Forget
unfolding step
forget-step g w s shows =
    let t = record s { tally = no_tally (length g.members) } in leads-counted g w t (t.events + 1) t.crashes (forget-becomes g w s shows)
