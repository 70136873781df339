-- The laws of lines, of words and of printed ends.
use Rattle.std.proofs.Common.{◌≡◌, ℕ, ◌<◌, ◌≤◌, ◌^◌, List, [], ◌∷◌, ◌++◌, length, Some, codes, refl, ap, ◌∙◌, arith, inl, inr, length-append}
use Rattle.std.specs.Prelude.{slice_get}
use Rattle.clap.proofs.OnLiterals.{clap_on_literals}
use Rattle.hex.proofs.HexLemmas.{decode_of-ok}
use Rattle.hc_store.specs.Command.{Command, Get, Put, Del, Cas, Scan, Count}
use Rattle.hc_store.specs.Spelling.{FitsCommand}
use Rattle.hc_store.specs.Replies.{payload_of}
use Rattle.hc_store.proofs.Spells.{a_spelling_is_read}
use Rattle.hc_text.specs.declared.command_name.CommandName.{CommandName}
use Rattle.hc_text.specs.declared.command_name.CommandName.TheVariants.{Replica, Router, Aggregator, Server, Client, Replay, Simulate}
use Rattle.hc_text.specs.Call.{IsValueText, Says, Spaced}
use Rattle.hc_text.specs.End.{end_text}
use Rattle.hc_text.specs.Options.{AreTaken, rows_of_words}
use Rattle.hc_text.specs.Commands.{server_command, word_of}
use Rattle.hc_text.specs.Words.{name_of}
use Rattle.hc_text.specs.Laws.{AnswersArePrinted, LinesAreServed, MeanNothing, SomeAreTaken, SomeMeanNothing}
use Rattle.hc_text.proofs.Commands.{picks, said}
use Rattle.hc_text.proofs.Ends.{reply_text-whole}
use Rattle.hc_text.proofs.Somes.{some_same, none_is_not_some}

-- a value is no longer than its text
value_is_short : (value text : List ℕ) → IsValueText value text → length value ≤ length text
value_is_short value text (inl plain) = omega (arith, ap length plain.same)
value_is_short value text (inr hex) =
    omega (arith, (decode_of-ok hex.digits value hex.decoded).2, ap length hex.marked, length-append (codes "x:") hex.digits)

rest_is_short : {P Q : List ℕ → Type 0} (text : List ℕ) (s : Spaced P Q text) → (length s.word ≤ length text) × (length s.rest ≤ length text)
rest_is_short text s =
    let size = ap length s.joined ∙ length-append s.word (32 ∷ s.rest) in
    (omega (arith, size), omega (arith, size))

fields_fit : (command : Command) (line : List ℕ) → Says command line → length line < 2 ^ 16 → FitsCommand command
fields_fit (Get key) line s short = omega (arith, (rest_is_short line s).1, value_is_short key s.rest s.behind)
fields_fit (Put key value) line s short =
    omega (arith, (rest_is_short line s).1, (rest_is_short s.rest s.behind).0, value_is_short key s.behind.word s.behind.first)
fields_fit (Del key) line s short = omega (arith, (rest_is_short line s).1, value_is_short key s.rest s.behind)
fields_fit (Cas key old new) line s short =
    let all = (rest_is_short line s).1 in
    let values = rest_is_short s.rest s.behind in
    let inner = rest_is_short s.behind.rest s.behind.behind in (
      omega (arith, all, values.0, value_is_short key s.behind.word s.behind.first),
      omega (arith, all, values.1, inner.0, value_is_short old s.behind.behind.word s.behind.behind.first),
    )
fields_fit (Scan key limit) line s short = (
  omega (arith, (rest_is_short line s).1, (rest_is_short s.rest s.behind).0, value_is_short key s.behind.word s.behind.first),
  s.behind.behind.fits,
)
fields_fit Count line s short = tt

pub lines_are_served : LinesAreServed
lines_are_served line command said short =
    let fits = fields_fit command line said short in
    (inl (record { command = command; said = said; fits = fits; asked = refl }), a_spelling_is_read command fits)

pub answers_are_printed : AnswersArePrinted
unfolding end_text payload_of
answers_are_printed index status value fits = ap (λ t. t ++ 10 ∷ []) (reply_text-whole index status value fits)

nothing_without_words : MeanNothing []
nothing_without_words meant means = none_is_not_some _ (picks [] meant means)

no_command_is_fly : (name : CommandName) → codes "fly" ≡ word_of name → ⊥
no_command_is_fly Replica same = absurd (omega (arith, ap length same))
no_command_is_fly Router same = absurd (omega (arith, ap length same))
no_command_is_fly Aggregator same = absurd (omega (arith, ap length same))
no_command_is_fly Server same = absurd (omega (arith, ap length same))
no_command_is_fly Client same = absurd (omega (arith, ap length same))
no_command_is_fly Replay same = absurd (omega (arith, ap length same))
no_command_is_fly Simulate same = absurd (omega (arith, ap length same))

fly_means_nothing : MeanNothing (codes "fly" ∷ [])
fly_means_nothing meant means = no_command_is_fly (name_of meant) (some_same _ _ (picks (codes "fly" ∷ []) meant means))

-- words that `clap` refuses as options of a server
refused : (words : List (List ℕ)) → slice_get words 0 ≡ Some (codes "server") → (AreTaken server_command words → ⊥) → MeanNothing words
refused words first not_taken meant means = not_taken (said words meant Server first means).taken

missing_refused : AreTaken server_command (codes "server" ∷ []) → ⊥
unfolding AreTaken server_command clap_on_literals
missing_refused taken = cc taken

doubled_refused : AreTaken server_command (codes "server" ∷ codes "--listen=10.0.0.1:9000" ∷ codes "--listen" ∷ codes "10.0.0.1:9000" ∷ []) → ⊥
unfolding AreTaken server_command clap_on_literals
doubled_refused taken = cc taken

without_value_refused : AreTaken server_command (codes "server" ∷ codes "--listen" ∷ []) → ⊥
unfolding AreTaken server_command clap_on_literals
without_value_refused taken = cc taken

unknown_refused : AreTaken server_command (codes "server" ∷ codes "--listen" ∷ codes "10.0.0.1:9000" ∷ codes "--help" ∷ []) → ⊥
unfolding AreTaken server_command clap_on_literals
unknown_refused taken = cc taken

without_name_refused : AreTaken server_command (codes "server" ∷ codes "10.0.0.1:9000" ∷ []) → ⊥
unfolding AreTaken server_command clap_on_literals
without_name_refused taken = cc taken

pub some_words_mean_nothing : SomeMeanNothing
some_words_mean_nothing = record {
  none = nothing_without_words;
  unknown_command = fly_means_nothing;
  missing = refused _ refl missing_refused;
  doubled = refused _ refl doubled_refused;
  without_value = refused _ refl without_value_refused;
  unknown_option = refused _ refl unknown_refused;
  without_name = refused _ refl without_name_refused;
}

pub some_words_are_taken : SomeAreTaken
unfolding AreTaken rows_of_words server_command clap_on_literals
some_words_are_taken = record { spaced = refl; spaced_text = refl; equal = refl; equal_text = refl; left_out = refl }
