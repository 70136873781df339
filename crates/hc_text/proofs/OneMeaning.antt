-- Words mean one thing at most.
use Rattle.std.proofs.Common.{◌≡◌, ℕ, ◌<◌, ◌^◌, Bool, true, false, List, length, Option, Some, None, codes, refl, sym, ap, subst, ◌∙◌, arith, Result, Ok, Err, IfOk, IfErr, MatchResult}
use Rattle.std.specs.Prelude.{slice_get}
use Rattle.clap.specs.Words.{Row}
use Rattle.r2_base.specs.declared.addr.Addr.{Addr}
use Rattle.r2_base.specs.Addr.{IsAddrText}
use Rattle.cmd_script.specs.declared.text_fault.TextFault.{TextFault}
use Rattle.cmd_script.specs.declared.text_fault.TextFault.TheVariants.{Outside, Memory}
use Rattle.hc_text.specs.declared.command_name.CommandName.{CommandName}
use Rattle.hc_text.specs.declared.command_name.CommandName.TheVariants.{Replica, Router, Aggregator, Server, Client, Replay, Simulate}
use Rattle.hc_text.specs.declared.meant.Meant.{Meant}
use Rattle.hc_text.specs.declared.meant.Meant.TheVariants as meant
use Rattle.hc_text.specs.declared.policy.Policy.{Policy}
use Rattle.hc_text.specs.Laws.{WordsMeanOneThing}
use Rattle.hc_text.specs.Commands.{command_of, word_of}
use Rattle.hc_text.specs.Options.{AreTaken, HasFlag, HasOption, MayHaveAddr, rows_of_words}
use Rattle.hc_text.specs.Texts.{IsAddrList, IsBoundsText, IsMemberText, IsNameText, IsNumberText, IsPolicyText}
use Rattle.hc_text.specs.Words.{Means, Says, SaysGroup, name_of}
use Rattle.hc_text.proofs.Commands.{Fields, made, means_said, of_name, picks, said, says_made}
use Rattle.hc_text.proofs.SameTexts.{same_addr, same_addrs, same_bounds, same_file_name, same_member, same_number, same_policy}
use Rattle.hc_text.proofs.Somes.{none_is_not_some, some_same}

-- an option has one text, so what is said of it is one thing where a text says one thing
same_option : {A : Type 0} (Holds : A → List ℕ → Type 0) (rows : List Row) (name : List ℕ) (a b : A)
    → ((text : List ℕ) → Holds a text → Holds b text → a ≡ b) → HasOption rows name (Holds a) → HasOption rows name (Holds b) → a ≡ b
same_option Holds rows name a b same one other =
    let texts = some_same one.text other.text (sym one.given ∙ other.given) in
    same one.text one.holds (subst (Holds b) (sym texts) other.holds)

addr_same : (rows : List Row) (name : List ℕ) (a b : Addr) → HasOption rows name (IsAddrText a) → HasOption rows name (IsAddrText b) → a ≡ b
addr_same rows name a b one other = same_option IsAddrText rows name a b (same_addr a b) one other

addrs_same : (most : ℕ) (rows : List Row) (name : List ℕ) (a b : List Addr) → HasOption rows name (IsAddrList most a) → HasOption rows name (IsAddrList most b) → a ≡ b
addrs_same most rows name a b one other = same_option (IsAddrList most) rows name a b (same_addrs most a b) one other

number_same : (least most : ℕ) (rows : List Row) (name : List ℕ) (a b : ℕ) → most < 2 ^ 64
    → HasOption rows name (IsNumberText least most a) → HasOption rows name (IsNumberText least most b) → a ≡ b
number_same least most rows name a b fits one other =
    same_option (IsNumberText least most) rows name a b (λ text p q. same_number least most a b text fits p q) one other

file_same : (rows : List Row) (name : List ℕ) (a b : List ℕ) → HasOption rows name (IsNameText a) → HasOption rows name (IsNameText b) → a ≡ b
file_same rows name a b one other = same_option IsNameText rows name a b (same_file_name a b) one other

policy_same : (rows : List Row) (name : List ℕ) (a b : Policy) → HasOption rows name (IsPolicyText a) → HasOption rows name (IsPolicyText b) → a ≡ b
policy_same rows name a b one other = same_option IsPolicyText rows name a b (same_policy a b) one other

maybe_same : (rows : List Row) (name : List ℕ) (a b : Option Addr) → MayHaveAddr rows name a → MayHaveAddr rows name b → a ≡ b
maybe_same rows name None None one other = refl
maybe_same rows name None (Some b) one other = absurd (none_is_not_some other.text (sym one ∙ other.given))
maybe_same rows name (Some a) None one other = absurd (none_is_not_some one.text (sym other ∙ one.given))
maybe_same rows name (Some a) (Some b) one other = ap Some (addr_same rows name a b one other)

flag_same : (rows : List Row) (name : List ℕ) (a b : Bool) → HasFlag rows name a → HasFlag rows name b → a ≡ b
flag_same rows name true true one other = refl
flag_same rows name true false one other = absurd (other one)
flag_same rows name false true one other = absurd (one other)
flag_same rows name false false one other = refl

-- a member's number and the bounds, over the members
member_same : (rows : List Row) (members others : List Addr) (a b : ℕ) → members ≡ others → length members < 2 ^ 64
    → HasOption rows (codes "me") (IsMemberText members a) → HasOption rows (codes "me") (IsMemberText others b) → a ≡ b
member_same rows members others a b same fits one other =
    same_option (IsMemberText members) rows (codes "me") a b (λ text p q. same_member members a b text fits p q) one
    (subst (λ (l : List Addr). HasOption rows (codes "me") (IsMemberText l b)) (sym same) other)

bounds_same : (rows : List Row) (members others : List Addr) (a b : List ℕ) → members ≡ others
    → HasOption rows (codes "bound") (IsBoundsText (length members) a) → HasOption rows (codes "bound") (IsBoundsText (length others) b) → a ≡ b
bounds_same rows members others a b same one other =
    same_option (IsBoundsText (length members)) rows (codes "bound") a b (same_bounds (length members) a b) one
    (subst (λ (l : List Addr). HasOption rows (codes "bound") (IsBoundsText (length l) b)) (sym same) other)

counted_bounds_same : (rows : List Row) (m n : ℕ) (a b : List ℕ) → m ≡ n → HasOption rows (codes "bound") (IsBoundsText m a) → HasOption rows (codes "bound") (IsBoundsText n b) → a ≡ b
counted_bounds_same rows m n a b same one other =
    same_option (IsBoundsText m) rows (codes "bound") a b (same_bounds m a b) one (subst (λ (k : ℕ). HasOption rows (codes "bound") (IsBoundsText k b)) (sym same) other)

-- options say one thing of a member and its group
record IsSameGroup (ms ms' : List Addr) (me me' : ℕ) (a a' : Option Addr) (bs bs' : List ℕ) (e e' : ℕ) : Type 0 where
  members : ms ≡ ms'
  own : me ≡ me'
  aggregator : a ≡ a'
  bounds : bs ≡ bs'
  election : e ≡ e'

group_same : (rows : List Row) (ms ms' : List Addr) (me me' : ℕ) (a a' : Option Addr) (bs bs' : List ℕ) (e e' : ℕ) → SaysGroup ms me a bs e rows → SaysGroup ms' me' a' bs' e' rows
    → IsSameGroup ms ms' me me' a a' bs bs' e e'
group_same rows ms ms' me me' a a' bs bs' e e' one other =
    let same = addrs_same _ rows _ ms ms' one.group other.group in
    record {
      members = same;
      own = member_same rows ms ms' me me' same (omega (arith, one.group.holds.few)) one.own other.own;
      aggregator = maybe_same rows (codes "aggregator") a a' one.aggregated other.aggregated;
      bounds = bounds_same rows ms ms' bs bs' same one.bounded other.bounded;
      election = number_same _ _ rows _ e e' (omega arith) one.elects other.elects;
    }

-- options say one thing of a command
says_one : (name : CommandName) (rows : List Row) (f g : Fields name) → Says (made name f) rows → Says (made name g) rows → made name f ≡ made name g
says_one Replica rows (members, me, journal, aggregator, bounds, election, tick_ms, turns) (members', me', journal', aggregator', bounds', election', tick_ms', turns') one other =
    let same = group_same rows members members' me me' aggregator aggregator' bounds bounds' election election' one.member other.member in
    let a = file_same rows _ journal journal' one.keeps other.keeps in
    let b = number_same _ _ rows _ tick_ms tick_ms' (omega arith) one.ticks other.ticks in
    let c = number_same _ _ rows _ turns turns' (omega arith) one.ends other.ends in
    λ i. meant.Replica (same.members i) (same.own i) (a i) (same.aggregator i) (same.bounds i) (same.election i) (b i) (c i)
says_one Router rows (listen, servers, n, workers, tick_ms, turns) (listen', servers', n', workers', tick_ms', turns') one other =
    let a = addr_same rows _ listen listen' one.listens other.listens in
    let b = addrs_same _ rows _ servers servers' one.targets other.targets in
    let c = number_same _ _ rows _ n n' (omega arith) one.bounded other.bounded in
    let d = number_same _ _ rows _ workers workers' (omega arith) one.works other.works in
    let e = number_same _ _ rows _ tick_ms tick_ms' (omega arith) one.ticks other.ticks in
    let f = number_same _ _ rows _ turns turns' (omega arith) one.ends other.ends in
    λ i. meant.Router (a i) (b i) (c i) (d i) (e i) (f i)
says_one Aggregator rows (listen, members, turns) (listen', members', turns') one other =
    let a = addr_same rows _ listen listen' one.listens other.listens in
    let b = addrs_same _ rows _ members members' one.group other.group in
    let c = number_same _ _ rows _ turns turns' (omega arith) one.ends other.ends in
    λ i. meant.Aggregator (a i) (b i) (c i)
says_one Server rows (listen, router, tick_ms, turns) (listen', router', tick_ms', turns') one other =
    let a = addr_same rows _ listen listen' one.listens other.listens in
    let b = maybe_same rows (codes "router") router router' one.routed other.routed in
    let c = number_same _ _ rows _ tick_ms tick_ms' (omega arith) one.ticks other.ticks in
    let d = number_same _ _ rows _ turns turns' (omega arith) one.ends other.ends in
    λ i. meant.Server (a i) (b i) (c i) (d i)
says_one Client rows (listen, to, policy, wait, tries, tick_ms, turns) (listen', to', policy', wait', tries', tick_ms', turns') one other =
    let a = addr_same rows _ listen listen' one.listens other.listens in
    let b = addrs_same _ rows _ to to' one.targets other.targets in
    let c = policy_same rows _ policy policy' one.by_policy other.by_policy in
    let d = number_same _ _ rows _ wait wait' (omega arith) one.waits other.waits in
    let e = number_same _ _ rows _ tries tries' (omega arith) one.tried other.tried in
    let f = number_same _ _ rows _ tick_ms tick_ms' (omega arith) one.ticks other.ticks in
    let g = number_same _ _ rows _ turns turns' (omega arith) one.ends other.ends in
    λ i. meant.Client (a i) (b i) (c i) (d i) (e i) (f i) (g i)
says_one Replay rows (members, me, aggregator, bounds, election) (members', me', aggregator', bounds', election') one other =
    let same = group_same rows members members' me me' aggregator aggregator' bounds bounds' election election' one other in
    λ i. meant.Replay (same.members i) (same.own i) (same.aggregator i) (same.bounds i) (same.election i)
says_one Simulate rows (seed, members, requests, loss, repeat, crash, bounds, aggregator) (seed', members', requests', loss', repeat', crash', bounds', aggregator') one other =
    let a = number_same _ _ rows _ seed seed' (omega arith) one.seeded other.seeded in
    let b = number_same _ _ rows _ members members' (omega arith) one.group other.group in
    let c = number_same _ _ rows _ requests requests' (omega arith) one.asked other.asked in
    let d = number_same _ _ rows _ loss loss' (omega arith) one.loses other.loses in
    let e = number_same _ _ rows _ repeat repeat' (omega arith) one.repeats other.repeats in
    let f = number_same _ _ rows _ crash crash' (omega arith) one.crashes other.crashes in
    let g = counted_bounds_same rows members members' bounds bounds' b one.bounded other.bounded in
    let h = flag_same rows _ aggregator aggregator' one.aggregated other.aggregated in
    λ i. meant.Simulate (a i) (b i) (c i) (d i) (e i) (f i) (g i) (h i)

pub words_mean_one_thing : WordsMeanOneThing
words_mean_one_thing words a b one other =
    let first = said words a (name_of b) (picks words b other) one in
    let p = of_name a (name_of b) first.is_of in
    let q = of_name b (name_of b) refl in
    p.is ∙ says_one (name_of b) _ p.fields q.fields (says_made _ a _ p first.says) (says_made _ b _ q other.hold) ∙ sym q.is

-- what is read of the options of the command that the first word picks is what the words mean
pub found_by : (r : Result Meant TextFault) (words : List (List ℕ)) (name : CommandName) (rows : List Row) → slice_get words 0 ≡ Some (word_of name) → AreTaken (command_of name) words
    → rows ≡ rows_of_words (command_of name) words → IfOk r (λ m. name_of m ≡ name) → IfOk r (λ m. Says m rows) → IfOk r (λ m. Means words m)
found_by (Ok m) words name rows first taken are is_of says = means_said words m name first (record { is_of = is_of; taken = taken; says = subst (Says m) are says })
found_by (Err e) words name rows first taken are is_of says = tt

-- what is answered where one thing alone is meant
pub only_meant : (r : Result Meant TextFault) (words : List (List ℕ)) (m : Meant) → IfOk r (λ x. Means words x) → IfErr r (λ e. e ≡ Memory) → Means words m
    → MatchResult r (λ x. x ≡ m) (λ e. e ≡ Memory)
only_meant (Ok x) words m found fails means = words_mean_one_thing words x m found means
only_meant (Err e) words m found fails means = fails

-- what was refused means nothing
pub not_outside : (r : Result Meant TextFault) → IfErr r (λ e. e ≡ Memory) → r ≡ Err Outside → ⊥
not_outside r fails is =
    let at = subst (λ (x : Result Meant TextFault). IfErr x (λ e. e ≡ Memory)) is fails in
    cc at
