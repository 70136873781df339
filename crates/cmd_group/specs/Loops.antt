-- The loops of a whole group, by the lives of its members.
use Rattle.std.specs.Prelude.{◌≡◌, ℕ, ◌<◌, List, [], ◌∷◌, ◌++◌, length, Some, None}
use Rattle.r2_base.specs.declared.addr.Addr.{Addr}
use Rattle.r2_base.specs.declared.datagram.Datagram.{Datagram}
use Rattle.hc_rules.specs.Log.{In}
use Rattle.hc_rules.specs.Message.{Request}
use Rattle.hc_run.specs.Group.{Group, IsGroup, setup_of}
use Rattle.hc_run.specs.State.{GroupState, replica_at, stopped}
use Rattle.hc_run.specs.Events.{GroupEvent}
use Rattle.hc_run.specs.Runs.{IsRun, run}
use Rattle.hc_run.specs.OneList.{ListGrows, applied_list}
use Rattle.hc_run.specs.ReplyParts.{IsReplyPart, ReadsAsReply}
use Rattle.hc_run.specs.AsOne.{IsEntryOf, IsReplyOf, ServesAsOne}
use Rattle.cmd_group.specs.Steps.{Step, acts_at, asked_in, of_aggregators}
use Rattle.cmd_group.specs.AggregatorLoops.{AggregatorLife, AreAggregatorLives, sent_by_lives, steps_of_lives}
use Rattle.cmd_group.specs.Lives.{AreLives, Life, acts_of_lives, place_of_lives, sent_in_lives}
use Rattle.cmd_group.specs.Merge.{AreSeenEarlier, AreSeenInTurn, IsSeenIn, Loops, MayCome, after_step, begun, loops_after}

-- each of the steps may come where it comes, as far as it depends on what was sent before
abbrev pub AllCome : Group → Loops → List Step → Type 0
AllCome g s [] = Unit {0}
AllCome g s (step ∷ more) = MayCome g s step × AllCome g (after_step g s step) more

-- the loops of a group, merged into one list: each member has such lives, which are
-- what it does in the list, and so has the aggregator, if there is one; each datagram that is
-- taken in stands among those that earlier steps sent to whom it comes; and each request is new
pub record AreLoops (g : Group) (lives : ℕ → List Life) (counting : List AggregatorLife) (steps : List Step) : Type 0 where
  pub lived : (v : ℕ) → v < length g.members → AreLives (setup_of g v) [] (lives v)
  pub merged : (v : ℕ) → v < length g.members → acts_at v steps ≡ acts_of_lives (lives v)
  pub counted : (me : Addr) → g.aggregator ≡ Some me → AreAggregatorLives me g.members counting
  pub aggregated : (me : Addr) → g.aggregator ≡ Some me → of_aggregators steps ≡ steps_of_lives me g.members counting
  pub unaggregated : g.aggregator ≡ None → of_aggregators steps ≡ []
  pub come : AllCome g (begun g) steps

-- a run of the group in which its loops are seen after these steps, and earlier after each earlier part of them: it has the requests that
-- the steps ask, the journals of these lives and the members that run after them, and in it all was sent that they sent
pub record HasRunOf (g : Group) (lives : ℕ → List Life) (counting : List AggregatorLife) (steps : List Step) : Type 0 where
  pub events : List GroupEvent
  pub is : IsRun g events
  pub seen : IsSeenIn (run g events) (loops_after g steps)
  pub earlier : AreSeenEarlier g steps events
  pub in_turn : AreSeenInTurn g steps events earlier
  pub table : (run g events).table ≡ asked_in steps
  pub places : (v : ℕ) → v < length g.members → replica_at (run g events) v ≡ place_of_lives (setup_of g v) (stopped []) (lives v)
  pub sent : (v : ℕ) → v < length g.members → (d : Datagram) → In d (sent_in_lives (setup_of g v) (lives v)) → In d (run g events).datagrams
  pub aggregator_sent : (me : Addr) → g.aggregator ≡ Some me → (d : Datagram) → In d (sent_by_lives me g.members counting) → In d (run g events).datagrams

-- so the loops of a group are a run of it
abbrev pub LoopsAreRuns : Type 0
LoopsAreRuns =
    (g : Group) (lives : ℕ → List Life) (counting : List AggregatorLife) (steps : List Step) → IsGroup g → AreLoops g lives counting steps
    → HasRunOf g lives counting steps

-- One list --

-- the list of what was applied only grows: after more of the steps, and after all of them, it begins with what it was
pub record GrowsBySteps (g : Group) (steps : List Step) (events : List GroupEvent) (earlier : AreSeenEarlier g steps events) : Type 0 where
  pub in_turn : (before more after : List Step) (first : before ++ (more ++ after) ≡ steps) (second : (before ++ more) ++ after ≡ steps)
      → ListGrows (run g (earlier before (more ++ after) first).earlier) (run g (earlier (before ++ more) after second).earlier)
  pub at_last : (before after : List Step) (whole : before ++ after ≡ steps) → ListGrows (run g (earlier before after whole).earlier) (run g events)

-- a datagram is a part of a reply that was made, and that is what one thread replies which serves the list of what was applied
pub record IsRightReply (g : Group) (s : GroupState) (d : Datagram) : Type 0 where
  pub part : IsReplyPart g s.replied d
  pub right : IsReplyOf (applied_list s) part.reply

-- all that members sent and that reads as a part of a reply is such a part
abbrev pub AreRightReplies : Group → (ℕ → List Life) → GroupState → Type 0
AreRightReplies g lives s =
    (v : ℕ) → v < length g.members → (d : Datagram) → In d (sent_in_lives (setup_of g v) (lives v)) → ReadsAsReply d → IsRightReply g s d

-- the reply has a smaller index than the entry of each request that is asked in these steps, whether that is answered or not
pub record ComesBefore (g : Group) (s : GroupState) (steps : List Step) (d : Datagram) : Type 0 where
  pub is : IsRightReply g s d
  pub below : (q : Request) (index : ℕ) → In q (asked_in steps) → IsEntryOf (applied_list s) index q → is.part.reply.index < index

-- what a loop sent in some steps and reads as a part of a reply comes before each request that is asked in later ones
abbrev pub AreInOrderOfSteps : Group → List Step → GroupState → Type 0
AreInOrderOfSteps g steps s =
    (before after : List Step) (d : Datagram) → before ++ after ≡ steps → In d (loops_after g before).sent → ReadsAsReply d
    → ComesBefore g s after d

-- the loops serve as one thread: by one list of entries, which grows from step to step, and which replies, services and members are by;
-- and a reply that was sent before a request was first sent has a smaller index
pub record ServeAsOne (g : Group) (lives : ℕ → List Life) (counting : List AggregatorLife) (steps : List Step) : Type 0 where
  pub has : HasRunOf g lives counting steps
  pub as_one : ServesAsOne g (run g has.events)
  pub grows : GrowsBySteps g steps has.events has.earlier
  pub replies : AreRightReplies g lives (run g has.events)
  pub order : AreInOrderOfSteps g steps (run g has.events)

-- and so they do
abbrev pub LoopsServeAsOne : Type 0
LoopsServeAsOne =
    (g : Group) (lives : ℕ → List Life) (counting : List AggregatorLife) (steps : List Step) → IsGroup g → AreLoops g lives counting steps
    → ServeAsOne g lives counting steps
