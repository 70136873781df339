-- The words of a client's line.
use Rattle.std.proofs.Common.{◌≡◌, ◌≢◌, ℕ, ◌<◌, ◌^◌, zero, suc, Bool, true, false, List, [], ◌∷◌, ◌++◌, length, get_or, refl, sym, ap, subst, ◌∙◌, arith, inl, inr, codes, All, Result, Err, MatchResult, length-append}
use Rattle.std.specs.Prelude.{Some, ◌⊎◌}
use Rattle.std.specs.List.{AllPass}
use Rattle.std.proofs.lemmas.List.Elements.{All-append}
use Rattle.hex.specs.Hex.{is_hex_digit}
use Rattle.hex.proofs.HexLemmas.{decode_of-ok}
use Rattle.r2_base.specs.Text.{IsSplit}
use Rattle.hc_store.specs.Command.{Command, Get, Put, Del, Cas, Scan, Count}
use Rattle.hc_store.specs.Spelling.{FitsCommand, spelling}
use Rattle.hc_text.specs.declared.call.Call.{Call}
use Rattle.cmd_script.specs.declared.text_fault.TextFault.{TextFault}
use Rattle.cmd_script.specs.declared.text_fault.TextFault.TheVariants.{Outside, Memory}
use Rattle.hc_text.specs.Call.{GivesBody, IsCallLine, IsLimitText, IsPlainText, IsValueText, Is, Says, Spaced, call_of, mode_word}

-- ---- where a text is cut

abbrev pub NoSpace : List ℕ → Type 0
NoSpace text = All (λ b. b ≢ 32) text

plain_has_no_space : (value text : List ℕ) → IsPlainText value text → NoSpace text
plain_has_no_space value text plain k d inside same =
    let printing = plain.printing k d inside in
    absurd (omega (arith, printing.0, same))

digits_have_no_space : (digits : List ℕ) → AllPass is_hex_digit digits → NoSpace digits
digits_have_no_space digits all k d inside same =
    let digit = ap is_hex_digit (sym same) ∙ all k d inside in
    cc

mark_has_no_space : NoSpace (codes "x:")
mark_has_no_space zero d inside same = absurd (omega (arith, same))
mark_has_no_space (suc zero) d inside same = absurd (omega (arith, same))
mark_has_no_space (suc (suc k)) d inside same = absurd (omega arith)

pub value_has_no_space : (value text : List ℕ) → IsValueText value text → NoSpace text
value_has_no_space value text (inl plain) = plain_has_no_space value text plain
value_has_no_space value text (inr hex) =
    let all = (decode_of-ok hex.digits value hex.decoded).1 in
    subst NoSpace (sym hex.marked) (All-append (λ b. b ≢ 32) (codes "x:") hex.digits mark_has_no_space (digits_have_no_space hex.digits all))

-- the first word and the rest are found by cutting at the first space
pub spaced_split : {P Q : List ℕ → Type 0} (text : List ℕ) (s : Spaced P Q text) → NoSpace s.word → IsSplit 32 text s.word s.rest
spaced_split text s none = record { joined = s.joined; first = none }

pub spaced_value : {Q : List ℕ → Type 0} (value text : List ℕ) (s : Spaced (IsValueText value) Q text) → IsSplit 32 text s.word s.rest
spaced_value value text s = spaced_split text s (value_has_no_space value s.word s.first)

-- what was cut there is a word and a rest
pub split_spaced : (P Q : List ℕ → Type 0) (text word rest : List ℕ) → IsSplit 32 text word rest → P word → Q rest → Spaced P Q text
split_spaced P Q text word rest split p q = record { word = word; rest = rest; joined = split.joined; first = p; behind = q }

-- the cut is the only one
abbrev pub IsOnlyCut : List ℕ → List ℕ → List ℕ → Type 0
IsOnlyCut text word rest = (front more : List ℕ) → IsSplit 32 text front more → (word ≡ front) × (rest ≡ more)

-- the parts of a spaced text are those of its only cut
pub spaced_parts : (P Q : List ℕ → Type 0) (text word rest : List ℕ) → IsOnlyCut text word rest → (s : Spaced P Q text) → NoSpace s.word → P word × Q rest
spaced_parts P Q text word rest only s none =
    let cut = only s.word s.rest (spaced_split text s none) in
    (subst P (sym cut.0) s.first, subst Q (sym cut.1) s.behind)

pub value_parts : (value : List ℕ) (Q : List ℕ → Type 0) (text word rest : List ℕ) → IsOnlyCut text word rest → Spaced (IsValueText value) Q text → IsValueText value word × Q rest
value_parts value Q text word rest only s = spaced_parts (IsValueText value) Q text word rest only s (value_has_no_space value s.word s.first)

mode_has_no_space : (read : Bool) (word : List ℕ) → word ≡ mode_word read → NoSpace word
mode_has_no_space true word is = subst NoSpace (sym is) one
  where
    one : NoSpace (codes "r")
    one zero d inside same = absurd (omega (arith, same))
    one (suc k) d inside same = absurd (omega arith)
mode_has_no_space false word is = subst NoSpace (sym is) one
  where
    one : NoSpace (codes "w")
    one zero d inside same = absurd (omega (arith, same))
    one (suc k) d inside same = absurd (omega arith)

pub mode_parts : (read : Bool) (Q : List ℕ → Type 0) (text word rest : List ℕ) → IsOnlyCut text word rest → Spaced (Is (mode_word read)) Q text → (word ≡ mode_word read) × Q rest
mode_parts read Q text word rest only s = spaced_parts (Is (mode_word read)) Q text word rest only s (mode_has_no_space read s.word s.first)

pub mode_cut : (read : Bool) (Q : List ℕ → Type 0) (text : List ℕ) (s : Spaced (Is (mode_word read)) Q text) → IsSplit 32 text s.word s.rest
mode_cut read Q text s = spaced_split text s (mode_has_no_space read s.word s.first)

-- ---- the first word of a line

-- the word of a command, and what comes after it
abbrev pub verb_of : Command → List ℕ
verb_of (Get key) = codes "get"
verb_of (Put key value) = codes "put"
verb_of (Del key) = codes "del"
verb_of (Cas key old new) = codes "cas"
verb_of (Scan key limit) = codes "scan"
verb_of Count = codes "count"

abbrev pub Texts : Command → List ℕ → Type 0
Texts (Get key) = IsValueText key
Texts (Put key value) = Spaced (IsValueText key) (IsValueText value)
Texts (Del key) = IsValueText key
Texts (Cas key old new) = Spaced (IsValueText key) (Spaced (IsValueText old) (IsValueText new))
Texts (Scan key limit) = Spaced (IsValueText key) (IsLimitText limit)
Texts Count = λ _. ⊥

-- the words of three and four letters have no space
three : (a b c : ℕ) → a ≢ 32 → b ≢ 32 → c ≢ 32 → NoSpace (a ∷ b ∷ c ∷ [])
three a b c x y z zero d inside = x
three a b c x y z (suc zero) d inside = y
three a b c x y z (suc (suc zero)) d inside = z
three a b c x y z (suc (suc (suc k))) d inside = absurd (omega arith)

four : (a b c e : ℕ) → a ≢ 32 → b ≢ 32 → c ≢ 32 → e ≢ 32 → NoSpace (a ∷ b ∷ c ∷ e ∷ [])
four a b c e x y z w zero d inside = x
four a b c e x y z w (suc zero) d inside = y
four a b c e x y z w (suc (suc zero)) d inside = z
four a b c e x y z w (suc (suc (suc zero))) d inside = w
four a b c e x y z w (suc (suc (suc (suc k)))) d inside = absurd (omega arith)

get_has_no_space : NoSpace (codes "get")
get_has_no_space = three 103 101 116 (λ e. absurd (omega (arith, e))) (λ e. absurd (omega (arith, e))) (λ e. absurd (omega (arith, e)))

put_has_no_space : NoSpace (codes "put")
put_has_no_space = three 112 117 116 (λ e. absurd (omega (arith, e))) (λ e. absurd (omega (arith, e))) (λ e. absurd (omega (arith, e)))

del_has_no_space : NoSpace (codes "del")
del_has_no_space = three 100 101 108 (λ e. absurd (omega (arith, e))) (λ e. absurd (omega (arith, e))) (λ e. absurd (omega (arith, e)))

cas_has_no_space : NoSpace (codes "cas")
cas_has_no_space = three 99 97 115 (λ e. absurd (omega (arith, e))) (λ e. absurd (omega (arith, e))) (λ e. absurd (omega (arith, e)))

scan_has_no_space : NoSpace (codes "scan")
scan_has_no_space = four 115 99 97 110 (λ e. absurd (omega (arith, e))) (λ e. absurd (omega (arith, e))) (λ e. absurd (omega (arith, e))) (λ e. absurd (omega (arith, e)))

raw_has_no_space : NoSpace (codes "raw")
raw_has_no_space = three 114 97 119 (λ e. absurd (omega (arith, e))) (λ e. absurd (omega (arith, e))) (λ e. absurd (omega (arith, e)))

-- a line is cut after its first word
cut_at : (verb : List ℕ) (Q : List ℕ → Type 0) (line : List ℕ) (s : Spaced (Is verb) Q line) → NoSpace verb → IsSplit 32 line s.word s.rest
cut_at verb Q line s none = spaced_split line s (subst NoSpace (sym s.first) none)

-- a cut that a line has
abbrev pub HasCut : List ℕ → Type 0
HasCut line = (front : List ℕ) × (more : List ℕ) × IsSplit 32 line front more

has_cut : (verb : List ℕ) (Q : List ℕ → Type 0) (line : List ℕ) → NoSpace verb → Spaced (Is verb) Q line → HasCut line
has_cut verb Q line none s = (s.word, s.rest, cut_at verb Q line s none)

-- a command's line is cut after its first word, or it is `count`
command_cut : (line : List ℕ) (command : Command) → Says command line → HasCut line ⊎ (command ≡ Count)
command_cut line (Get key) s = inl (has_cut (codes "get") (Texts (Get key)) line get_has_no_space s)
command_cut line (Put key value) s = inl (has_cut (codes "put") (Texts (Put key value)) line put_has_no_space s)
command_cut line (Del key) s = inl (has_cut (codes "del") (Texts (Del key)) line del_has_no_space s)
command_cut line (Cas key old new) s = inl (has_cut (codes "cas") (Texts (Cas key old new)) line cas_has_no_space s)
command_cut line (Scan key limit) s = inl (has_cut (codes "scan") (Texts (Scan key limit)) line scan_has_no_space s)
command_cut line Count s = inr refl

raw_cut : (line : List ℕ) (call : Call) → GivesBody line call → HasCut line
raw_cut line call gives = has_cut (codes "raw") (Spaced (Is (mode_word call.read)) (IsValueText call.body)) line raw_has_no_space gives

-- `count` is cut nowhere
count_is_whole : HasCut (codes "count") → ⊥
count_is_whole (front, more, cut) = nowhere front more cut.joined
  where
    nowhere : (front more : List ℕ) → codes "count" ≡ front ++ 32 ∷ more → ⊥
    nowhere [] more same = absurd (omega (arith, ap (λ t. get_or t 0 0) same))
    nowhere (a ∷ []) more same = absurd (omega (arith, ap (λ t. get_or t 1 0) same))
    nowhere (a ∷ b ∷ []) more same = absurd (omega (arith, ap (λ t. get_or t 2 0) same))
    nowhere (a ∷ b ∷ c ∷ []) more same = absurd (omega (arith, ap (λ t. get_or t 3 0) same))
    nowhere (a ∷ b ∷ c ∷ d ∷ []) more same = absurd (omega (arith, ap (λ t. get_or t 4 0) same))
    nowhere (a ∷ b ∷ c ∷ d ∷ e ∷ front) more same = absurd (omega (arith, ap length same, length-append front (32 ∷ more)))

-- what `count` says
pub count_only : (line : List ℕ) → line ≡ codes "count" → (call : Call) → IsCallLine line call → call ≡ call_of Count
count_only line is call (inr gives) = absurd (count_is_whole (subst HasCut is (raw_cut line call gives)))
count_only line is call (inl asks) =
    elim (command_cut line asks.command asks.said) [
      | inl cut ↦ absurd (count_is_whole (subst HasCut is cut))
      | inr counts ↦ asks.asked ∙ ap call_of counts
    ]

command_is_cut : (line : List ℕ) → line ≢ codes "count" → (command : Command) → Says command line → HasCut line ⊎ (command ≡ Count) → HasCut line
command_is_cut line other command said (inl cut) = cut
command_is_cut line other command said (inr counts) = absurd (other (subst (λ (k : Command). Says k line) counts said))

-- every line but `count` is cut somewhere
pub line_cut : (line : List ℕ) → line ≢ codes "count" → (call : Call) → IsCallLine line call → HasCut line
line_cut line other call (inl asks) = command_is_cut line other asks.command asks.said (command_cut line asks.command asks.said)
line_cut line other call (inr gives) = raw_cut line call gives

-- what the first word and the rest of a line say
pub record SaysCommand (word rest : List ℕ) (call : Call) : Type 0 where
  pub command : Command
  pub verb : word ≡ verb_of command
  pub texts : Texts command rest
  pub fits : FitsCommand command
  pub asked : call ≡ call_of command

abbrev pub GivesRaw : List ℕ → List ℕ → Call → Type 0
GivesRaw word rest call = (word ≡ codes "raw") × Spaced (Is (mode_word call.read)) (IsValueText call.body) rest

abbrev pub SaysParts : List ℕ → List ℕ → Call → Type 0
SaysParts word rest call = SaysCommand word rest call ⊎ GivesRaw word rest call

verb_parts : (verb : List ℕ) (Q : List ℕ → Type 0) (line word rest : List ℕ) → IsOnlyCut line word rest → NoSpace verb → Spaced (Is verb) Q line → (word ≡ verb) × Q rest
verb_parts verb Q line word rest only none s = spaced_parts (Is verb) Q line word rest only s (subst NoSpace (sym s.first) none)

command_parts : (line word rest : List ℕ) → IsOnlyCut line word rest → line ≢ codes "count" → (command : Command) → Says command line → (word ≡ verb_of command) × Texts command rest
command_parts line word rest only other (Get key) s = verb_parts (codes "get") (Texts (Get key)) line word rest only get_has_no_space s
command_parts line word rest only other (Put key value) s = verb_parts (codes "put") (Texts (Put key value)) line word rest only put_has_no_space s
command_parts line word rest only other (Del key) s = verb_parts (codes "del") (Texts (Del key)) line word rest only del_has_no_space s
command_parts line word rest only other (Cas key old new) s = verb_parts (codes "cas") (Texts (Cas key old new)) line word rest only cas_has_no_space s
command_parts line word rest only other (Scan key limit) s = verb_parts (codes "scan") (Texts (Scan key limit)) line word rest only scan_has_no_space s
command_parts line word rest only other Count s = absurd (other s)

pub line_parts : (line word rest : List ℕ) → IsOnlyCut line word rest → line ≢ codes "count" → (call : Call) → IsCallLine line call → SaysParts word rest call
line_parts line word rest only other call (inl asks) =
    let parts = command_parts line word rest only other asks.command asks.said in
    inl (record { command = asks.command; verb = parts.0; texts = parts.1; fits = asks.fits; asked = asks.asked })
line_parts line word rest only other call (inr gives) =
    inr (verb_parts (codes "raw") (Spaced (Is (mode_word call.read)) (IsValueText call.body)) line word rest only raw_has_no_space gives)

-- ---- each first word

abbrev pub call_with : Bool → List ℕ → Call
call_with read body = record { read = read; body = body }

abbrev letter : List ℕ → ℕ
letter text = get_or text 0 0

get_command : (command : Command) (rest : List ℕ) → codes "get" ≡ verb_of command → Texts command rest → FitsCommand command → (call : Call) → call ≡ call_of command
    → (key : List ℕ) × IsValueText key rest × (length key < 2 ^ 16) × (call ≡ call_of (Get key))
get_command (Get key) rest verb texts fits call asked = (key, texts, fits, asked)
get_command other rest verb texts fits call asked = absurd (omega (arith, ap letter verb))

put_command : (command : Command) (rest : List ℕ) → codes "put" ≡ verb_of command → Texts command rest → FitsCommand command → (call : Call) → call ≡ call_of command
    → (key : List ℕ) × (value : List ℕ) × Spaced (IsValueText key) (IsValueText value) rest × (length key < 2 ^ 16) × (call ≡ call_of (Put key value))
put_command (Put key value) rest verb texts fits call asked = (key, value, texts, fits, asked)
put_command other rest verb texts fits call asked = absurd (omega (arith, ap letter verb))

del_command : (command : Command) (rest : List ℕ) → codes "del" ≡ verb_of command → Texts command rest → FitsCommand command → (call : Call) → call ≡ call_of command
    → (key : List ℕ) × IsValueText key rest × (length key < 2 ^ 16) × (call ≡ call_of (Del key))
del_command (Del key) rest verb texts fits call asked = (key, texts, fits, asked)
del_command other rest verb texts fits call asked = absurd (omega (arith, ap letter verb))

cas_command : (command : Command) (rest : List ℕ) → codes "cas" ≡ verb_of command → Texts command rest → FitsCommand command → (call : Call) → call ≡ call_of command
    → (key : List ℕ) × (old : List ℕ) × (new : List ℕ) × Spaced (IsValueText key) (Spaced (IsValueText old) (IsValueText new)) rest
    × (length key < 2 ^ 16) × (length old < 2 ^ 16) × (call ≡ call_of (Cas key old new))
cas_command (Cas key old new) rest verb texts fits call asked = (key, old, new, texts, fits.0, fits.1, asked)
cas_command Count rest verb texts fits call asked = absurd texts
cas_command other rest verb texts fits call asked = absurd (omega (arith, ap letter verb))

scan_command : (command : Command) (rest : List ℕ) → codes "scan" ≡ verb_of command → Texts command rest → FitsCommand command → (call : Call) → call ≡ call_of command
    → (key : List ℕ) × (limit : ℕ) × Spaced (IsValueText key) (IsLimitText limit) rest × (length key < 2 ^ 16) × (call ≡ call_of (Scan key limit))
scan_command (Scan key limit) rest verb texts fits call asked = (key, limit, texts, fits.0, asked)
scan_command other rest verb texts fits call asked = absurd (omega (arith, ap letter verb))

no_raw : (command : Command) → codes "raw" ≡ verb_of command → ⊥
no_raw command verb = by command verb
  where
    by : (command : Command) → codes "raw" ≡ verb_of command → ⊥
    by (Get key) verb = absurd (omega (arith, ap letter verb))
    by (Put key value) verb = absurd (omega (arith, ap letter verb))
    by (Del key) verb = absurd (omega (arith, ap letter verb))
    by (Cas key old new) verb = absurd (omega (arith, ap letter verb))
    by (Scan key limit) verb = absurd (omega (arith, ap letter verb))
    by Count verb = absurd (omega (arith, ap letter verb))

-- ---- what a line with each first word says

pub get_only : (word rest : List ℕ) (call : Call) → word ≡ codes "get" → SaysParts word rest call
    → (key : List ℕ) × IsValueText key rest × (length key < 2 ^ 16) × (call ≡ call_of (Get key))
get_only word rest call is (inl says) = get_command says.command rest (sym is ∙ says.verb) says.texts says.fits call says.asked
get_only word rest call is (inr raw) = absurd (omega (arith, ap letter (sym is ∙ raw.0)))

pub put_only : (word rest : List ℕ) (call : Call) → word ≡ codes "put" → SaysParts word rest call
    → (key : List ℕ) × (value : List ℕ) × Spaced (IsValueText key) (IsValueText value) rest × (length key < 2 ^ 16) × (call ≡ call_of (Put key value))
put_only word rest call is (inl says) = put_command says.command rest (sym is ∙ says.verb) says.texts says.fits call says.asked
put_only word rest call is (inr raw) = absurd (omega (arith, ap letter (sym is ∙ raw.0)))

pub del_only : (word rest : List ℕ) (call : Call) → word ≡ codes "del" → SaysParts word rest call
    → (key : List ℕ) × IsValueText key rest × (length key < 2 ^ 16) × (call ≡ call_of (Del key))
del_only word rest call is (inl says) = del_command says.command rest (sym is ∙ says.verb) says.texts says.fits call says.asked
del_only word rest call is (inr raw) = absurd (omega (arith, ap letter (sym is ∙ raw.0)))

pub cas_only : (word rest : List ℕ) (call : Call) → word ≡ codes "cas" → SaysParts word rest call
    → (key : List ℕ) × (old : List ℕ) × (new : List ℕ) × Spaced (IsValueText key) (Spaced (IsValueText old) (IsValueText new)) rest
    × (length key < 2 ^ 16) × (length old < 2 ^ 16) × (call ≡ call_of (Cas key old new))
cas_only word rest call is (inl says) = cas_command says.command rest (sym is ∙ says.verb) says.texts says.fits call says.asked
cas_only word rest call is (inr raw) = absurd (omega (arith, ap letter (sym is ∙ raw.0)))

pub scan_only : (word rest : List ℕ) (call : Call) → word ≡ codes "scan" → SaysParts word rest call
    → (key : List ℕ) × (limit : ℕ) × Spaced (IsValueText key) (IsLimitText limit) rest × (length key < 2 ^ 16) × (call ≡ call_of (Scan key limit))
scan_only word rest call is (inl says) = scan_command says.command rest (sym is ∙ says.verb) says.texts says.fits call says.asked
scan_only word rest call is (inr raw) = absurd (omega (arith, ap letter (sym is ∙ raw.0)))

pub raw_only : (word rest : List ℕ) (call : Call) → word ≡ codes "raw" → SaysParts word rest call → Spaced (Is (mode_word call.read)) (IsValueText call.body) rest
raw_only word rest call is (inl says) = absurd (no_raw says.command (sym is ∙ says.verb))
raw_only word rest call is (inr raw) = raw.1

-- no line has another first word
pub other_only : (word rest : List ℕ) (call : Call) → word ≢ codes "get" → word ≢ codes "put" → word ≢ codes "del" → word ≢ codes "cas" → word ≢ codes "scan" → word ≢ codes "raw"
    → SaysParts word rest call → ⊥
other_only word rest call get put del cas scan raw (inr given) = raw given.0
other_only word rest call get put del cas scan raw (inl says) = by says.command says.verb says.texts
  where
    by : (command : Command) → word ≡ verb_of command → Texts command rest → ⊥
    by (Get key) verb texts = get verb
    by (Put key value) verb texts = put verb
    by (Del key) verb texts = del verb
    by (Cas key old new) verb texts = cas verb
    by (Scan key limit) verb texts = scan verb
    by Count verb texts = texts

-- ---- a body that encodes the fields that were read

pub put_is : (body a b key value : List ℕ) → body ≡ spelling (Put a b) → a ≡ key → b ≡ value → call_with false body ≡ call_of (Put key value)
put_is body a b key value is same_key same_value = ap (call_with false) (is ∙ (λ i. spelling (Put (same_key i) (same_value i))))

pub cas_is : (body a b e key old new : List ℕ) → body ≡ spelling (Cas a b e) → a ≡ key → b ≡ old → e ≡ new → call_with false body ≡ call_of (Cas key old new)
cas_is body a b e key old new is same_key same_old same_new =
    ap (call_with false) (is ∙ (λ i. spelling (Cas (same_key i) (same_old i) (same_new i))))

pub scan_is : (body a key : List ℕ) (n limit : ℕ) → body ≡ spelling (Scan a n) → a ≡ key → n ≡ limit → call_with true body ≡ call_of (Scan key limit)
scan_is body a key n limit is same_key same_limit = ap (call_with true) (is ∙ (λ i. spelling (Scan (same_key i) (same_limit i))))

pub get_line : (line word rest : List ℕ) → IsSplit 32 line word rest → word ≡ codes "get" → (call : Call) (key : List ℕ) → IsValueText key rest → length key < 2 ^ 16
    → call ≡ call_of (Get key) → IsCallLine line call
get_line line word rest split is call key named fits asked =
    inl (record { command = Get key; said = split_spaced (Is (codes "get")) (IsValueText key) line word rest split is named; fits = fits; asked = asked })

pub del_line : (line word rest : List ℕ) → IsSplit 32 line word rest → word ≡ codes "del" → (call : Call) (key : List ℕ) → IsValueText key rest → length key < 2 ^ 16
    → call ≡ call_of (Del key) → IsCallLine line call
del_line line word rest split is call key named fits asked =
    inl (record { command = Del key; said = split_spaced (Is (codes "del")) (IsValueText key) line word rest split is named; fits = fits; asked = asked })

pub some_same : (n limit : ℕ) → Some n ≡ Some limit → n ≡ limit
some_same n limit same = cc

-- ---- from what a call is to what the line says

-- an answer that can be nothing else than this call
abbrev pub IsOnly : Result Call TextFault → Call → Type 0
IsOnly r call = MatchResult r (λ x. x ≡ call) (λ e. e ≡ Memory)

pub along : (r : Result Call TextFault) (a b : Call) → a ≡ b → IsOnly r b → IsOnly r a
along r a b same only = subst (IsOnly r) (sym same) only

-- a line that says a call isn't outside
pub not_outside : (r : Result Call TextFault) (call : Call) → IsOnly r call → r ≡ Err Outside → ⊥
not_outside r call only is = let at = subst (λ (x : Result Call TextFault). IsOnly x call) is only in cc at
