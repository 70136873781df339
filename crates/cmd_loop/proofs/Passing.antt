-- What passes in one stretch and then in another.
use Rattle.std.proofs.Common.{◌≡◌, ℕ, List, [], ◌++◌, None, ap, ◌∙◌, append-nil}
use Rattle.r2_base.specs.declared.datagram.Datagram.{Datagram}
use Rattle.r2_link.specs.declared.lane.Item.{Item}
use Rattle.r2_link.specs.Links.{LinkPasses, LinkTold, tells_address}
use Rattle.r2_link.proofs.Links.{LinkPasses-nothing, LinkPasses-then}
use Rattle.r2_link.proofs.Streams.{Appends-nil, Appends-trans, Consumes-nil, Consumes-trans}
use Rattle.r2_link.proofs.Told.{Gains-nil, Gains-then, Tells-nil, Tells-then}
use Rattle.hc_log.specs.declared.record.Record.{Record}
use Rattle.cmd_loop.specs.Ends.{Ends, Passage, Passes, joined, nothing, passing}

-- ends that tell nothing
abbrev pub silent : Ends
silent = record { source = None; written = None; link = tells_address None; clock = None; records = None }

pub Passes-nothing : (a : Ends) → Passes a a nothing
Passes-nothing a = record {
  source = Consumes-nil a.source;
  sink = Appends-nil a.written;
  link = LinkPasses-nothing a.link;
  clock = Tells-nil a.clock;
  journal = Gains-nil a.records;
}

pub Passes-then : (a b c : Ends) (p q : Passage) → Passes a b p → Passes b c q → Passes a c (joined p q)
Passes-then a b c p q first second = record {
  source = Consumes-trans a.source b.source c.source p.taken q.taken first.source second.source;
  sink = Appends-trans a.written b.written c.written p.text q.text first.sink second.sink;
  link = LinkPasses-then a.link b.link c.link p.items q.items p.sends q.sends first.link second.link;
  clock = Tells-then a.clock b.clock c.clock p.moments q.moments first.clock second.clock;
  journal = Gains-then a.records b.records c.records p.stored q.stored first.journal second.journal;
}

-- what passes over the link alone
pub Passes-link : (o : Ends) (a b : LinkTold) (items : List Item) (sends : List Datagram)
    → LinkPasses a b items sends → Passes (record o { link = a }) (record o { link = b }) (passing items [] [] sends)
Passes-link o a b items sends passed = record {
  source = Consumes-nil o.source;
  sink = Appends-nil o.written;
  link = passed;
  clock = Tells-nil o.clock;
  journal = Gains-nil o.records;
}

-- a passage, and then nothing
pub joined-nothing : (items : List Item) (moments : List ℕ) (stored : List Record) (sends : List Datagram)
    → joined (passing items moments stored sends) nothing ≡ passing items moments stored sends
joined-nothing items moments stored sends =
    ap (λ (l : List Item). passing l (moments ++ []) (stored ++ []) (sends ++ [])) (append-nil items)
    ∙ ap (λ (l : List ℕ). passing items l (stored ++ []) (sends ++ [])) (append-nil moments)
    ∙ ap (λ (l : List Record). passing items moments l (sends ++ [])) (append-nil stored)
    ∙ ap (λ (l : List Datagram). passing items moments stored l) (append-nil sends)
