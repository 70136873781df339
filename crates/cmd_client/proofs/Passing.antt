-- What passed in one stretch of a client's run and then in another.
use Rattle.std.proofs.Common.{◌≡◌, ◌≤◌, ℕ, ◌+◌, suc, zero, List, [], ◌∷◌, ◌++◌, Option, Some, None, refl, sym, ap, ◌∙◌, subst, append-nil, append_assoc, arith}
use Rattle.std.specs.Io.KnownBytes.{Appends}
use Rattle.r2_base.specs.declared.datagram.Datagram.{Datagram}
use Rattle.r2_link.specs.declared.lane.Item.{Item}
use Rattle.r2_link.specs.declared.lane.Item.TheVariants.{Datagram as ADatagram, Quiet as NoDatagram}
use Rattle.r2_link.specs.Links.{LinkPasses, LinkTold}
use Rattle.r2_link.specs.Moments.{Tells}
use Rattle.r2_link.specs.Told.{RanDry, Takes}
use Rattle.r2_link.proofs.Links.{LinkPasses-nothing, LinkPasses-then}
use Rattle.r2_link.proofs.Streams.{Appends-nil, Consumes-nil}
use Rattle.r2_link.proofs.Told.{Gains-nil, RanDry-on, Tells-nil}
use Rattle.cmd_loop.specs.Ends.{Ends, Passes, passing}
use Rattle.cmd_loop.proofs.Passing.{Passes-nothing, Passes-then}
use Rattle.cmd_client.specs.Outside.{AreHeard, LinkTalks, Talks, silence, talking}

-- an answer of the link is an item
pub heard-datagram : (a b : LinkTold) (d : Datagram) → LinkPasses a b (ADatagram d ∷ []) [] → LinkTalks a b (ADatagram d ∷ []) []
heard-datagram a b d passed = record { came = ADatagram d ∷ []; heard = record { quiets = 0; heard = refl; dry = λ h. absurd (omega (arith, h)) }; passed = passed }

pub heard-quiet : (a b : LinkTold) → LinkPasses a b (NoDatagram ∷ []) [] → LinkTalks a b (NoDatagram ∷ []) []
heard-quiet a b passed = record { came = NoDatagram ∷ []; heard = record { quiets = 0; heard = refl; dry = λ h. absurd (omega (arith, h)) }; passed = passed }

-- at the end it is that nothing comes
pub heard-end : (a b : LinkTold) → LinkPasses a b [] [] → RanDry a.left b.left → LinkTalks a b (NoDatagram ∷ []) []
heard-end a b passed dry = record { came = []; heard = record { quiets = 1; heard = refl; dry = λ h. dry }; passed = passed }

silence-add : (m n : ℕ) → silence m ++ silence n ≡ silence (m + n)
silence-add zero n = let e : n ≡ zero + n = omega arith in ap silence e
silence-add (suc m) n = let e : suc (m + n) ≡ suc m + n = omega arith in ap (λ (l : List Item). NoDatagram ∷ l) (silence-add m n) ∙ ap silence e

-- what came in two stretches
record Both (a c : Option (List Item)) (items more : List Item) : Type 0 where
  came : List Item
  took : Takes a c came
  heard : AreHeard a c came (items ++ more)

none-left : (xs ys : List Item) → [] ≡ xs ++ ys → (xs ≡ []) × (ys ≡ [])
none-left [] ys e = (refl, sym e)
none-left (x ∷ xs) ys e = absurd (cc (e))

both-told : (x y z came next items more : List Item) (m n : ℕ) → items ≡ came ++ silence m → x ≡ came ++ y → (1 ≤ m → y ≡ [])
    → more ≡ next ++ silence n → y ≡ next ++ z → (1 ≤ n → z ≡ []) → Both (Some x) (Some z) items more
both-told x y z came next items more zero n p q dry r s dry' = record {
  came = came ++ next;
  took = q ∙ ap (λ (l : List Item). came ++ l) s ∙ sym (append_assoc came next z);
  heard = record {
    quiets = n;
    heard = ap (λ (l : List Item). l ++ more) (p ∙ append-nil came) ∙ ap (λ (l : List Item). came ++ l) r ∙ sym (append_assoc came next (silence n));
    dry = dry';
  };
}
both-told x y z came next items more (suc m) n p q dry r s dry' =
    let none = none-left next z (sym (dry (omega arith)) ∙ s) in
    record {
      came = came;
      took = q ∙ ap (λ (l : List Item). came ++ l) (dry (omega arith) ∙ sym none.1);
      heard = record {
        quiets = suc m + n;
        heard = ap (λ (l : List Item). l ++ more) p
            ∙ ap (λ (l : List Item). (came ++ silence (suc m)) ++ l) (r ∙ ap (λ (l : List Item). l ++ silence n) none.0)
            ∙ append_assoc came (silence (suc m)) (silence n)
            ∙ ap (λ (l : List Item). came ++ l) (silence-add (suc m) n);
        dry = λ h. none.1;
      };
    }

both : (a b c : Option (List Item)) (came next items more : List Item) → Takes a b came → AreHeard a b came items → Takes b c next → AreHeard b c next more → Both a c items more
both None b c came next items more took heard took' heard' =
    record { came = items ++ more; took = tt; heard = record { quiets = 0; heard = sym (append-nil (items ++ more)); dry = λ h. absurd (omega (arith, h)) } }
both (Some x) None c came next items more took heard took' heard' = absurd took
both (Some x) (Some y) None came next items more took heard took' heard' = absurd took'
both (Some x) (Some y) (Some z) came next items more took heard took' heard' =
    both-told x y z came next items more heard.quiets heard'.quiets heard.heard took heard.dry heard'.heard took' heard'.dry

pub talks-none : (o : Ends) → Talks o o [] [] [] []
talks-none o = record { came = []; heard = record { quiets = 0; heard = refl; dry = λ h. absurd (omega (arith, h)) }; passed = Passes-nothing o }

pub talks-then : (a b c : Ends) (is js : List Item) (ms ns : List ℕ) (ds es : List Datagram) (vs ws : List ℕ)
    → Talks a b is ms ds vs → Talks b c js ns es ws → Talks a c (is ++ js) (ms ++ ns) (ds ++ es) (vs ++ ws)
talks-then a b c is js ms ns ds es vs ws p q =
    let came = both a.link.left b.link.left c.link.left p.came q.came is js p.passed.link.took p.heard q.passed.link.took q.heard in
    let all = Passes-then a b c (talking p.came ms ds vs) (talking q.came ns es ws) p.passed q.passed in
    record {
      came = came.came;
      heard = came.heard;
      passed = record {
        source = all.source;
        sink = all.sink;
        link = record { took = came.took; gave = all.link.gave; lanes = all.link.lanes; me = all.link.me };
        clock = all.clock;
        journal = all.journal;
      };
    }

-- what passes over the link alone
pub talks-link : (o : Ends) (p q : LinkTold) (items : List Item) (sends : List Datagram) → LinkTalks p q items sends
    → Talks (record o { link = p }) (record o { link = q }) items [] sends []
talks-link o p q items sends talks = record {
  came = talks.came;
  heard = talks.heard;
  passed = record {
    source = Consumes-nil o.source;
    sink = Appends-nil o.written;
    link = talks.passed;
    clock = Tells-nil o.clock;
    journal = Gains-nil o.records;
  };
}

link-sends : (p q : LinkTold) (sends : List Datagram) → LinkPasses p q [] sends → LinkTalks p q [] sends
link-sends p q sends passed = record { came = []; heard = record { quiets = 0; heard = refl; dry = λ h. absurd (omega (arith, h)) }; passed = passed }

-- datagrams were sent
pub talks-sends : (o : Ends) (p q : LinkTold) (sends : List Datagram) → LinkPasses p q [] sends → Talks (record o { link = p }) (record o { link = q }) [] [] sends []
talks-sends o p q sends passed = talks-link o p q [] sends (link-sends p q sends passed)

-- an item was heard, and datagrams sent and a text written
pub talks-hears : (o : Ends) (p q r : LinkTold) (w x : Option (List ℕ)) (item : Item) (sends : List Datagram) (text : List ℕ)
    → LinkTalks p q (item ∷ []) [] → LinkPasses q r [] sends → Appends w x text
    → Talks (record o { link = p; written = w }) (record o { link = r; written = x }) (item ∷ []) [] sends text
talks-hears o p q r w x item sends text heard sent wrote = record {
  came = heard.came;
  heard = record { quiets = heard.heard.quiets; heard = heard.heard.heard; dry = λ h. RanDry-on p.left q.left r.left (heard.heard.dry h) sent.took };
  passed = record {
    source = Consumes-nil o.source;
    sink = wrote;
    link = subst (λ (l : List Item). LinkPasses p r l sends) (append-nil heard.came) (LinkPasses-then p q r heard.came [] [] sends heard.passed sent);
    clock = Tells-nil o.clock;
    journal = Gains-nil o.records;
  };
}

-- a moment was told, and datagrams sent and a text written
pub talks-tells : (o : Ends) (p q : LinkTold) (c e w x : Option (List ℕ)) (moment : ℕ) (sends : List Datagram) (text : List ℕ)
    → Tells c e (moment ∷ []) → LinkPasses p q [] sends → Appends w x text
    → Talks (record o { link = p; clock = c; written = w }) (record o { link = q; clock = e; written = x }) [] (moment ∷ []) sends text
talks-tells o p q c e w x moment sends text told sent wrote = record {
  came = [];
  heard = record { quiets = 0; heard = refl; dry = λ h. absurd (omega (arith, h)) };
  passed = record { source = Consumes-nil o.source; sink = wrote; link = sent; clock = told; journal = Gains-nil o.records };
}

-- the clock was asked in vain
pub talks-asked : (o : Ends) (c e : Option (List ℕ)) → Tells c e [] → Talks (record o { clock = c }) (record o { clock = e }) [] [] [] []
talks-asked o c e told = record {
  came = [];
  heard = record { quiets = 0; heard = refl; dry = λ h. absurd (omega (arith, h)) };
  passed = record { source = Consumes-nil o.source; sink = Appends-nil o.written; link = LinkPasses-nothing o.link; clock = told; journal = Gains-nil o.records };
}

-- moments were told, and nothing else passed
pub Passes-clock : (o : Ends) (c e : Option (List ℕ)) (moments : List ℕ) → Tells c e moments → Passes (record o { clock = c }) (record o { clock = e }) (passing [] moments [] [])
Passes-clock o c e moments told =
    record { source = Consumes-nil o.source; sink = Appends-nil o.written; link = LinkPasses-nothing o.link; clock = told; journal = Gains-nil o.records }
