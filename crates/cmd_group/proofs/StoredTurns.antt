-- The turn of a life in which one of its records is stored.
use Rattle.std.proofs.Common.{◌≡◌, List, [], ◌∷◌, ◌++◌, Option, Some, None, refl, sym, ap, ◌∙◌, append_assoc, append-nil}
use Rattle.std.specs.Prelude.{fold}
use Rattle.r2_base.specs.declared.event.Event.{Event}
use Rattle.hc_log.specs.declared.record.Record.{Record}
use Rattle.hc_log.specs.Durable.{replay}
use Rattle.hc_member.specs.declared.setup.Setup.{Setup}
use Rattle.hc_member.specs.Member.{Member, anew}
use Rattle.hc_member.specs.Turn.{turned}
use Rattle.cmd_loop.specs.Happenings.{Came, came}
use Rattle.cmd_loop.specs.Party.{records_of}
use Rattle.cmd_replica.specs.Replica.{Served, serve_one, served, unserved}
use Rattle.cmd_group.specs.Lives.{Ending, Open, Stopped, Broken, Closed, Life, stored_in}
use Rattle.cmd_group.specs.LoopLives.{taken_in}
use Rattle.cmd_group.specs.Crashes.{StoresAfter}

module _ (s : Setup) where
  -- what a member stores over events, and what it is then
  abbrev stores : Member → List Event → List Record
  stores m [] = []
  stores m (e ∷ es) = records_of (turned s m e).stored ++ stores (turned s m e).member es

  abbrev then_is : Member → List Event → Member
  then_is m [] = m
  then_is m (e ∷ es) = then_is (turned s m e).member es

  folded-stored : (so_far : Served) (es : List Event) → (fold (serve_one s) so_far (came es)).stored ≡ so_far.stored ++ stores so_far.member es
  folded-stored so_far [] = sym (append-nil so_far.stored)
  folded-stored so_far (e ∷ es) =
      folded-stored (serve_one s so_far (Came e)) es
      ∙ append_assoc so_far.stored (records_of (turned s so_far.member e).stored) (stores (turned s so_far.member e).member es)

  folded-member : (so_far : Served) (es : List Event) → (fold (serve_one s) so_far (came es)).member ≡ then_is so_far.member es
  folded-member so_far [] = refl
  folded-member so_far (e ∷ es) = folded-member (serve_one s so_far (Came e)) es

  served-stores : (m : Member) (es : List Event) → (served s m (came es)).stored ≡ stores m es
  unfolding served
  served-stores m es = folded-stored (unserved m) es

  served-is : (m : Member) (es : List Event) → (served s m (came es)).member ≡ then_is m es
  unfolding served
  served-is m es = folded-member (unserved m) es

  stores-more : (m : Member) (es : List Event) (e : Event) → stores m (es ++ e ∷ []) ≡ stores m es ++ records_of (turned s (then_is m es) e).stored
  stores-more m [] e = append-nil (records_of (turned s m e).stored)
  stores-more m (x ∷ es) e =
      let first = records_of (turned s m x).stored in
      let next = (turned s m x).member in
      ap (λ (l : List Record). first ++ l) (stores-more next es e) ∙ sym (append_assoc first (stores next es) (records_of (turned s (then_is next es) e).stored))

  -- The turn of a record --

  record IsTurnOf (m : Member) (es : List Event) (some : List Record) (r : Record) : Type 0 where
    before : List Event
    event : Event
    later : List Event
    split : es ≡ before ++ event ∷ later
    earlier : stores m before ≡ some
    stored : (turned s (then_is m before) event).stored ≡ Some r

  here : (m : Member) (e : Event) (es : List Event) (r : Record) → (turned s m e).stored ≡ Some r → IsTurnOf m (e ∷ es) [] r
  here m e es r same = record { before = []; event = e; later = es; split = refl; earlier = refl; stored = same }

  there : (m : Member) (e : Event) (es : List Event) (first some all : List Record) (r : Record) → records_of (turned s m e).stored ≡ first → first ++ some ≡ all
      → IsTurnOf (turned s m e).member es some r → IsTurnOf m (e ∷ es) all r
  there m e es first some all r same whole rest =
      let split = rest.split in
      record {
        before = e ∷ rest.before;
        event = rest.event;
        later = rest.later;
        split = λ k. e ∷ split k;
        earlier =
            ap (λ (l : List Record). records_of (turned s m e).stored ++ l) rest.earlier ∙ ap (λ (l : List Record). l ++ some) same ∙ whole;
        stored = rest.stored;
      }

  record HeadOf (x y : Record) (xs ys : List Record) : Type 0 where
    head : x ≡ y
    tail : xs ≡ ys

  head-of : (x y : Record) (xs ys : List Record) → x ∷ xs ≡ y ∷ ys → HeadOf x y xs ys
  head-of x y xs ys e = record { head = cc; tail = cc }

  turn-by : (m : Member) (e : Event) (es : List Event) (some more : List Record) (r : Record) (o : Option Record) → (turned s m e).stored ≡ o
      → ((others : List Record) → stores (turned s m e).member es ≡ others ++ r ∷ more → IsTurnOf (turned s m e).member es others r)
      → records_of o ++ stores (turned s m e).member es ≡ some ++ r ∷ more → IsTurnOf m (e ∷ es) some r
  turn-by m e es some more r None is rest same = there m e es [] some some r (ap records_of is) refl (rest some same)
  turn-by m e es [] more r (Some x) is rest same =
      let both = head-of x r (stores (turned s m e).member es) more same in
      here m e es r (is ∙ ap Some both.head)
  turn-by m e es (y ∷ some) more r (Some x) is rest same =
      let both = head-of x y (stores (turned s m e).member es) (some ++ r ∷ more) same in
      there m e es (y ∷ []) some (y ∷ some) r (ap records_of is ∙ ap (λ (z : Record). z ∷ []) both.head) refl (rest some both.tail)

  turn-of : (m : Member) (es : List Event) (some more : List Record) (r : Record) → stores m es ≡ some ++ r ∷ more → IsTurnOf m es some r
  turn-of m [] [] more r same = absurd cc
  turn-of m [] (x ∷ some) more r same = absurd cc
  turn-of m (e ∷ es) some more r same =
      turn-by m e es some more r (turned s m e).stored refl (λ others rest. turn-of (turned s m e).member es others more r rest) same

  -- Lives --

  -- what a life stored it stored over the events that it took in
  stored-taken : (records : List Record) (es : List Event) (ending : Ending)
      → stored_in s (record { records = records; events = es; ending = ending }) ≡ stores (anew (replay records)) (taken_in (record { records = records; events = es; ending = ending }))
  stored-taken records es Open = ap (λ (l : List Record). l ++ []) (served-stores (anew (replay records)) es) ∙ append-nil (stores (anew (replay records)) es)
      ∙ ap (stores (anew (replay records))) (sym (append-nil es))
  stored-taken records es Stopped = ap (λ (l : List Record). l ++ []) (served-stores (anew (replay records)) es) ∙ append-nil (stores (anew (replay records)) es)
      ∙ ap (stores (anew (replay records))) (sym (append-nil es))
  stored-taken records es (Closed times sent) = ap (λ (l : List Record). l ++ []) (served-stores (anew (replay records)) es) ∙ append-nil (stores (anew (replay records)) es)
      ∙ ap (stores (anew (replay records))) (sym (append-nil es))
  stored-taken records es (Broken e sent) =
      let m = anew (replay records) in
      let so_far = served s m (came es) in
      ap (λ (l : List Record). l ++ records_of (turned s so_far.member e).stored) (served-stores m es)
      ∙ ap (λ (x : Member). stores m es ++ records_of (turned s x e).stored) (served-is m es)
      ∙ sym (stores-more m es e)

  -- each of its records is that of one of its turns, after the ones before
  pub stores-after : (life : Life) (es left : List Event) (some more : List Record) (r : Record) → es ≡ taken_in life ++ left → stored_in s life ≡ some ++ r ∷ more
      → StoresAfter s (replay life.records) es some r
  stores-after life es left some more r came_to same =
      let m = anew (replay life.records) in
      let turn = turn-of m (taken_in life) some more r (sym (stored-taken life.records life.events life.ending) ∙ same) in
      record {
        before = turn.before;
        event = turn.event;
        later = turn.later ++ left;
        split = came_to ∙ ap (λ (l : List Event). l ++ left) turn.split ∙ append_assoc turn.before (turn.event ∷ turn.later) left;
        earlier = served-stores m turn.before ∙ turn.earlier;
        stores = ap (λ (x : Member). (turned s x turn.event).stored) (served-is m turn.before) ∙ turn.stored;
      }
