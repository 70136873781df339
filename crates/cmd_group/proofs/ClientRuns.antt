-- A client's run as its contract has it: which steps it took, what came to it, and what it printed of its calls' ends.
use Rattle.std.proofs.Common.{◌≡◌, ℕ, zero, suc, List, [], ◌∷◌, ◌++◌, Option, refl, sym, ap, ◌∙◌, subst, append-nil, append_assoc, inl, inr}
use Rattle.r2_base.specs.declared.datagram.Datagram.{Datagram}
use Rattle.r2_client.specs.declared.call_end.CallEnd.{CallEnd}
use Rattle.r2_link.specs.declared.lane.Item.{Item}
use Rattle.r2_link.specs.declared.lane.Item.TheVariants.{Datagram as ADatagram}
use Rattle.r2_link.proofs.Links.{LinkPasses-then}
use Rattle.r2_link.proofs.Streams.{Appends-trans}
use Rattle.hc_rules.specs.Log.{In}
use Rattle.hc_run.proofs.Items.{in-left, in-parts, in-right}
use Rattle.hc_text.specs.declared.policy.Policy.{Policy}
use Rattle.cmd_lines.specs.Limits.{most_line}
use Rattle.cmd_lines.specs.Script.{EndsBetween, Say}
use Rattle.cmd_status.specs.declared.status.Status.{Status}
use Rattle.cmd_status.specs.declared.status.Status.TheVariants.{BadScript, ClockFault, Done, IdsUsed, LinkFault, Memory, SinkFault, SourceFault, TimedOut, TurnsSpent}
use Rattle.cmd_loop.specs.Ends.{Ends, Passes, nothing}
use Rattle.cmd_loop.specs.declared.pace.Pace.{Pace}
use Rattle.cmd_client.specs.Calls.{Calls, Ended, RunsFrom, StopsIn, begun}
use Rattle.cmd_client.specs.Outside.{beside, silence}
use Rattle.cmd_client.specs.Stops.{CutsLine, CutsSends, Goes, LosesStep, StopsTalk, Took}
use Rattle.cmd_client.specs.Talk.{AreInTurn, Asked, Step, Talk, asked_in, course, ends_text, items_of, taken}
use Rattle.cmd_client.specs.declared.calling.Calling.{Calling}
use Rattle.cmd_client.specs.Script.{AsksFor}
use Rattle.cmd_client.proofs.Courses.{sends-then, text-then}
use Rattle.cmd_group.specs.Answers.{Prints}
use Rattle.cmd_group.specs.Asked.{IsAsked}

-- Talks --

-- a talk took these steps, and a prefix of the lines of their ends was printed
pub record HasTalked (asked : List Asked) (t : Talk) (old new : Ends) : Type 0 where
  pub steps : List Step
  pub asks : asked_in steps ≡ asked
  pub sends : List Datagram
  pub text : List ℕ
  pub unprinted : List ℕ
  pub took : Took t old new steps sends text
  pub lines : ends_text (course t steps).ends ≡ text ++ unprinted
  pub sent : (d : Datagram) → In d sends → In d (course t steps).sends

-- what was sent of the last step is of all steps
sent-last : (t : Talk) (before : List Step) (last : Step) (some rest : List Datagram) → (taken (course t before).next last).sends ≡ some ++ rest
    → (d : Datagram) → In d ((course t before).sends ++ some) → In d (course t (before ++ last ∷ [])).sends
unfolding course
sent-last t before last some rest gives d there =
    let u = (course t before).next in
    let all : (course t (before ++ last ∷ [])).sends ≡ (course t before).sends ++ ((taken u last).sends ++ []) = sends-then t before (last ∷ []) in
    subst (λ (l : List Datagram). In d l) (sym all)
    (elim (in-parts d (course t before).sends some there) [
      | inl first ↦ in-left d (course t before).sends ((taken u last).sends ++ []) first
      | inr here ↦
          in-right d (course t before).sends ((taken u last).sends ++ [])
          (in-left d (taken u last).sends [] (subst (λ (l : List Datagram). In d l) (sym gives) (in-left d some rest here)))
    ])

goes-talked : (asked : List Asked) (t : Talk) (old new : Ends) (Then : Talk → List Step → Type 0) → Goes asked t old new Then → HasTalked asked t old new
goes-talked asked t old new Then goes =
    let went = goes.went in
    record {
      steps = goes.steps;
      sends = (course t goes.steps).sends;
      text = ends_text (course t goes.steps).ends;
      unprinted = [];
      took = went.took;
      lines = sym (append-nil (ends_text (course t goes.steps).ends));
      asks = goes.asks;
      sent = λ d there. there;
    }

-- the lines of the last step
last-line : (u : Talk) (last : Step) → ends_text (course u (last ∷ [])).ends ≡ ends_text (taken u last).ends
unfolding course
last-line u last = ap (λ (l : List CallEnd). ends_text l) (append-nil (taken u last).ends)

sends-talked : (asked : List Asked) (room : ℕ) (t : Talk) (old new : Ends) → CutsSends asked room t old new → HasTalked asked t old new
sends-talked asked room t old new cut = record {
  steps = cut.before ++ cut.last ∷ [];
  sends = (course t cut.before).sends ++ cut.prefix;
  text = ends_text (course t cut.before).ends;
  unprinted = ends_text (course (course t cut.before).next (cut.last ∷ [])).ends;
  took = cut.took;
  lines = text-then t cut.before (cut.last ∷ []);
  asks = cut.asks;
  sent = sent-last t cut.before cut.last cut.prefix cut.rest cut.gives;
}

line-talked : (asked : List Asked) (room : ℕ) (t : Talk) (old new : Ends) → CutsLine asked room t old new → HasTalked asked t old new
line-talked asked room t old new cut =
    let u = (course t cut.before).next in
    record {
      steps = cut.before ++ cut.last ∷ [];
      sends = (course t cut.before).sends ++ (taken u cut.last).sends;
      text = ends_text (course t cut.before).ends ++ cut.prefix;
      unprinted = cut.rest;
      took = cut.took;
      lines = text-then t cut.before (cut.last ∷ [])
          ∙ ap (λ (l : List ℕ). ends_text (course t cut.before).ends ++ l) (last-line u cut.last ∙ cut.gives)
          ∙ sym (append_assoc (ends_text (course t cut.before).ends) cut.prefix cut.rest);
      asks = cut.asks;
      sent = sent-last t cut.before cut.last (taken u cut.last).sends [] (sym (append-nil (taken u cut.last).sends));
    }

step-talked : (asked : List Asked) (room : ℕ) (t : Talk) (old new : Ends) → LosesStep asked room t old new → HasTalked asked t old new
step-talked asked room t old new lost = record {
  steps = lost.before ++ lost.last ∷ [];
  sends = (course t lost.before).sends;
  text = ends_text (course t lost.before).ends;
  unprinted = ends_text (course (course t lost.before).next (lost.last ∷ [])).ends;
  took = lost.took;
  lines = text-then t lost.before (lost.last ∷ []);
  asks = lost.asks;
  sent =
      let u = (course t lost.before).next in
      λ d there. sent-last t lost.before lost.last [] (taken u lost.last).sends refl d (in-left d (course t lost.before).sends [] there);
}

-- whatever stopped it
stops-talked : (asked : List Asked) (room : ℕ) (t : Talk) (old new : Ends) (status : Status) → StopsTalk asked room t old new status → HasTalked asked t old new
stops-talked asked room t old new TurnsSpent stops = goes-talked asked t old new _ stops
stops-talked asked room t old new ClockFault stops = goes-talked asked t old new _ stops
stops-talked asked room t old new LinkFault (inl goes) = goes-talked asked t old new _ goes
stops-talked asked room t old new LinkFault (inr cut) = sends-talked asked room t old new cut
stops-talked asked room t old new SinkFault stops = line-talked asked room t old new stops
stops-talked asked room t old new TimedOut stops = goes-talked asked t old new _ stops
stops-talked asked room t old new Memory (inl goes) = goes-talked asked t old new _ goes
stops-talked asked room t old new Memory (inr (inl cut)) = line-talked asked room t old new cut
stops-talked asked room t old new Memory (inr (inr lost)) = step-talked asked room t old new lost
stops-talked asked room t old new _ stops = absurd stops

-- however it ended
ended-talked : (policy : Policy) (asked : List Asked) (room : ℕ) (left : Option (List ℕ)) (took : List ℕ) (t : Talk) (old new : Ends) (status : Status)
    → Ended policy asked room left took t old new status → HasTalked asked t old new
ended-talked policy asked room left took t old new IdsUsed ends = goes-talked asked t old new _ ends.made
ended-talked policy asked room left took t old new status (inl both) = goes-talked asked t old new _ both.0
ended-talked policy asked room left took t old new status (inr stops) = stops-talked asked room t old new status stops.stops

-- Scripts --

-- each call of lines is asked by one of them
said-asked : (policy : Policy) (texts : List (List ℕ)) (calls : List Asked) → Say (AsksFor policy) texts calls → (call : Asked) → In call calls → IsAsked policy call
said-asked policy [] calls said call there = absurd (subst (λ (l : List Asked). In call l) said there)
said-asked policy ([] ∷ texts) calls said call there = said-asked policy texts calls said call there
said-asked policy ((b ∷ text) ∷ texts) [] said call there = absurd said
said-asked policy ((b ∷ text) ∷ texts) (first ∷ calls) said call (inl same) =
    record { line = b ∷ text; asks = subst (λ (x : Asked). AsksFor policy (b ∷ text) x) (sym same) said.0 }
said-asked policy ((b ∷ text) ∷ texts) (first ∷ calls) said call (inr later) = said-asked policy texts calls said.1 call later

between-asked : (policy : Policy) (left : Option (List ℕ)) (took : List ℕ) (calls : List Asked) (status : Status)
    → EndsBetween most_line (AsksFor policy) left took calls status → (call : Asked) → In call calls → IsAsked policy call
between-asked policy left took calls Done ends = said-asked policy (ends.texts ++ ends.last ∷ []) calls ends.said
between-asked policy left took calls (BadScript number) (inl stuck) = let next = stuck.1 in said-asked policy next.texts calls next.said
between-asked policy left took calls (BadScript number) (inr long) = let prefix = long.prefix in said-asked policy prefix.texts calls prefix.said
between-asked policy left took calls SourceFault ends = let prefix = ends.prefix in said-asked policy prefix.texts calls prefix.said
between-asked policy left took calls TurnsSpent ends = let partial = ends.0 in let prefix = partial.prefix in said-asked policy prefix.texts calls prefix.said
between-asked policy left took calls Memory (inl prefix) = said-asked policy prefix.texts calls prefix.said
between-asked policy left took calls Memory (inr whole) = said-asked policy (whole.texts ++ whole.last ∷ []) calls whole.said
between-asked policy left took calls _ ends = absurd ends

stops-asked : (policy : Policy) (calls : List Asked) (room : ℕ) (left : Option (List ℕ)) (took : List ℕ) (t : Talk) (old new : Ends) (status : Status)
    → StopsIn policy calls room left took t old new status → (call : Asked) → In call calls → IsAsked policy call
stops-asked policy calls room left took t old new status stops call there =
    let next = stops.next in
    elim (in-parts call stops.before (stops.call ∷ []) (subst (λ (l : List Asked). In call l) stops.last_of there)) [
      | inl before ↦ said-asked policy next.texts stops.before next.said call before
      | inr last ↦
          elim last [
            | inl same ↦ record { line = stops.line; asks = subst (λ (x : Asked). AsksFor policy stops.line x) (sym same) stops.asks }
            | inr none ↦ absurd none
          ]
    ]

ended-asked : (policy : Policy) (calls : List Asked) (room : ℕ) (left : Option (List ℕ)) (took : List ℕ) (t : Talk) (old new : Ends) (status : Status)
    → Ended policy calls room left took t old new status → (call : Asked) → In call calls → IsAsked policy call
ended-asked policy calls room left took t old new IdsUsed ends = let next = ends.next in said-asked policy next.texts calls next.said
ended-asked policy calls room left took t old new status (inl both) = between-asked policy left took calls status both.1
ended-asked policy calls room left took t old new status (inr stops) = stops-asked policy calls room left took t old new status stops

-- Runs --

-- a run of the command: at this start it took these steps, over these items that came
pub record HasRunSteps (calling : Calling) (pace : Pace) (old new : Ends) : Type 0 where
  pub start : ℕ
  pub steps : List Step
  pub in_turn : AreInTurn (begun calling pace start) steps
  pub came : List Item
  pub heard : (d : Datagram) → In (ADatagram d) (items_of steps) → In (ADatagram d) came
  pub prints : Prints old new came (course (begun calling pace start) steps).ends
  pub asked : (call : Asked) → In call (asked_in steps) → IsAsked calling.policy call
  pub sent : (d : Datagram) → In d prints.sends → In d (course (begun calling pace start) steps).sends

-- a datagram that was heard came
no-datagram : (n : ℕ) (d : Datagram) → In (ADatagram d) (silence n) → ⊥
no-datagram zero d there = there
no-datagram (suc n) d (inl same) = absurd cc
no-datagram (suc n) d (inr later) = no-datagram n d later

heard-came : (came items : List Item) (n : ℕ) (d : Datagram) → items ≡ came ++ silence n → In (ADatagram d) items → In (ADatagram d) came
heard-came came items n d same there =
    elim (in-parts (ADatagram d) came (silence n) (subst (λ (l : List Item). In (ADatagram d) l) same there)) [
      | inl first ↦ first
      | inr last ↦ absurd (no-datagram n d last)
    ]

from-runs : (calling : Calling) (pace : Pace) (old new : Ends) (status : Status) → RunsFrom calling pace old new status → HasRunSteps calling pace old new
from-runs calling pace old new status runs =
    let t = begun calling pace runs.start in
    let lines = runs.lines in
    let between = runs.between in
    let talked = ended-talked calling.policy lines.asked pace.turns new.source lines.taken t (beside between) (beside new) status lines.ended in
    let took = talked.took in
    let passed = took.passed in
    let heard = passed.heard in
    let all = passed.passed in
    let began = runs.began in
    record {
      start = runs.start;
      steps = talked.steps;
      in_turn = took.in_turn;
      came = passed.came;
      heard = λ d there. heard-came passed.came (items_of talked.steps) heard.quiets d heard.heard there;
      prints =
          record {
            sends = talked.sends;
            passed = LinkPasses-then old.link between.link new.link [] passed.came [] talked.sends began.link all.link;
            text = talked.text;
            unprinted = talked.unprinted;
            lines = talked.lines;
            printed = Appends-trans old.written between.written new.written [] talked.text began.sink all.sink;
          };
      asked =
          λ call there.
          ended-asked calling.policy lines.asked pace.turns new.source lines.taken t (beside between) (beside new) status lines.ended call
          (subst (λ (l : List Asked). In call l) talked.asks there);
      sent = talked.sent;
    }

-- where the clock failed at once
none-run : (calling : Calling) (pace : Pace) (old new : Ends) → Passes old new nothing → HasRunSteps calling pace old new
unfolding course items_of asked_in
none-run calling pace old new passed = record {
  start = 0;
  steps = [];
  in_turn = tt;
  came = [];
  heard = λ d there. there;
  prints = record { sends = []; passed = passed.link; text = []; unprinted = []; lines = refl; printed = passed.sink };
  asked = λ call there. absurd there;
  sent = λ d there. there;
}

pub run-steps : (calling : Calling) (pace : Pace) (old new : Ends) (status : Status) → Calls calling pace old new status → HasRunSteps calling pace old new
run-steps calling pace old new ClockFault (inl none) = none-run calling pace old new none
run-steps calling pace old new ClockFault (inr runs) = from-runs calling pace old new ClockFault runs
run-steps calling pace old new status runs = from-runs calling pace old new status runs
