-- What a request leaves of the contents.
use Rattle.std.proofs.Common.{◌≡◌, ◌≢◌, ℕ, ◌≤◌, Bool, true, false, List, [], refl, arith, if◌then◌else◌}
use Rattle.std.specs.Prelude.{Option, Some, None, nat_le}
use Rattle.std.specs.Str.{bytes_eq}
use Rattle.std.specs.FinMap as map
use Rattle.std.proofs.lemmas.Bool.{leb-true}
use Rattle.r2_base.specs.declared.entry.Kind.{Kind}
use Rattle.r2_base.specs.declared.entry.Kind.TheVariants.{Blank, Write, Read}
use Rattle.hc_store.specs.Command.{Command, Get, Put, Del, Cas, Scan, Count, command_of}
use Rattle.hc_store.specs.Service.{Contents, Served, answered, written, looked_up, taken_out, exchanged, changing, executed, most_bytes, serve, size_of}
use Rattle.hc_store.specs.Laws.{ReadsChangeNothing, RefusalsChangeNothing, StaysWithinItsSize}
use Rattle.hc_store.proofs.Sizes.{size-remove}

read-looked_up : (m : Contents) (found : Option (List ℕ)) → (looked_up m found).contents ≡ m
read-looked_up m (Some value) = refl
read-looked_up m None = refl

read-executed : (m : Contents) (command : Option Command) → (executed m Read command).contents ≡ m
read-executed m None = refl
read-executed m (Some (Get key)) = read-looked_up m (map.get m key)
read-executed m (Some (Put key value)) = refl
read-executed m (Some (Del key)) = refl
read-executed m (Some (Cas key old new)) = refl
read-executed m (Some (Scan key limit)) = refl
read-executed m (Some Count) = refl

pub reads_change_nothing : ReadsChangeNothing
unfolding serve
reads_change_nothing m body = read-executed m (command_of body)

-- what an answer with another status than 0 left
pub record Keeps (m : Contents) (served : Served) : Type 0 where
  pub same : served.status ≢ 0 → served.contents ≡ m
  pub size : size_of m ≤ most_bytes → size_of served.contents ≤ most_bytes

keeps-answered : (m : Contents) (status : ℕ) (value : List ℕ) → Keeps m (answered m status value)
keeps-answered m status value = record { same = λ _. refl; size = λ h. h }

keeps-written : (m changed : Contents) → Keeps m (written m changed)
keeps-written m changed = by (nat_le (size_of changed) most_bytes) refl
  where
    by : (b : Bool) → nat_le (size_of changed) most_bytes ≡ b → Keeps m (if b then answered changed 0 [] else answered m 5 [])
    by true e = record { same = λ other. absurd (other refl); size = λ _. leb-true (size_of changed) most_bytes e }
    by false e = keeps-answered m 5 []

keeps-looked_up : (m : Contents) (found : Option (List ℕ)) → Keeps m (looked_up m found)
keeps-looked_up m (Some value) = keeps-answered m 0 value
keeps-looked_up m None = keeps-answered m 1 []

keeps-taken_out : (m : Contents) (key : List ℕ) (found : Option (List ℕ)) → Keeps m (taken_out m key found)
keeps-taken_out m key (Some value) = record { same = λ other. absurd (other refl); size = λ h. omega (arith, h, size-remove m key) }
keeps-taken_out m key None = keeps-answered m 1 []

keeps-exchanged : (m : Contents) (key old new : List ℕ) (found : Option (List ℕ)) → Keeps m (exchanged m key old new found)
keeps-exchanged m key old new None = keeps-answered m 1 []
keeps-exchanged m key old new (Some present) = by (bytes_eq present old)
  where
    by : (b : Bool) → Keeps m (if b then written m (map.insert m key new) else answered m 2 present)
    by true = keeps-written m (map.insert m key new)
    by false = keeps-answered m 2 present

keeps-changing : (m : Contents) (kind : Kind) (changed : Served) → Keeps m changed → Keeps m (changing m kind changed)
keeps-changing m Read changed k = keeps-answered m 4 []
keeps-changing m Write changed k = k
keeps-changing m Blank changed k = k

keeps-executed : (m : Contents) (kind : Kind) (command : Option Command) → Keeps m (executed m kind command)
keeps-executed m kind None = keeps-answered m 3 []
keeps-executed m kind (Some (Get key)) = keeps-looked_up m (map.get m key)
keeps-executed m kind (Some (Put key value)) = keeps-changing m kind _ (keeps-written m (map.insert m key value))
keeps-executed m kind (Some (Del key)) = keeps-changing m kind _ (keeps-taken_out m key (map.get m key))
keeps-executed m kind (Some (Cas key old new)) = keeps-changing m kind _ (keeps-exchanged m key old new (map.get m key))
keeps-executed m kind (Some (Scan key limit)) = keeps-answered m 0 _
keeps-executed m kind (Some Count) = keeps-answered m 0 _

pub refusals_change_nothing : RefusalsChangeNothing
unfolding serve
refusals_change_nothing m kind body = (keeps-executed m kind (command_of body)).same

pub stays_within_its_size : StaysWithinItsSize
unfolding serve
stays_within_its_size m kind body = (keeps-executed m kind (command_of body)).size
