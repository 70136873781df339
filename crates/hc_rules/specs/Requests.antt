-- The table of requests: which requests were sent, and a log's operations with the bodies of the table.
use Rattle.std.specs.Prelude.{◌≡◌, ℕ, zero, suc, if◌then◌else◌, List, [], ◌∷◌}
use Rattle.r2_base.specs.declared.rid.Rid.{Rid}
use Rattle.r2_base.specs.declared.entry.Entry.{Entry}
use Rattle.r2_base.specs.Entry.{is_request}
use Rattle.r2_base.specs.Names.{same_rid}
use Rattle.hc_store.specs.Operations.{operations_of}
use Rattle.hc_store.specs.Replies.{Operation}
use Rattle.hc_rules.specs.Log.{In}
use Rattle.hc_rules.specs.Message.{Request}

-- a request of the table that has this id
pub record IsKnown (table : List Request) (rid : Rid) : Type 0 where
  pub request : Request
  pub sent : In request table
  pub named : request.rid ≡ rid

-- the request of the table that an entry is of
pub record IsListed (table : List Request) (e : Entry) : Type 0 where
  pub request : Request
  pub sent : In request table
  pub named : request.rid ≡ e.rid
  pub kind_is : request.kind ≡ e.kind

-- the request at a place of the table, counted from 0
abbrev pub At : List Request → ℕ → Request → Type 0
At [] place q = ⊥
At (r ∷ more) zero q = r ≡ q
At (r ∷ more) (suc place) q = At more place q

-- the body of the request with this id, and nothing where there is none
abbrev pub body_of : List Request → Rid → List ℕ
body_of [] rid = []
body_of (q ∷ more) rid = if same_rid rid q.rid then q.body else body_of more rid

-- the body of an entry's request; a blank one has none
abbrev pub entry_body : List Request → Entry → List ℕ
entry_body table e = if is_request e.kind then body_of table e.rid else []

-- a log as the service sees it
abbrev pub operations : List Request → List Entry → List Operation
operations table log = operations_of (λ e. e.kind) (entry_body table) log
