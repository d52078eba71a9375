-- A pengine with the entries that it has had: what a session looks like, and whose turns are out.
use Rattle.std.specs.Prelude.{◌≡◌, ℕ, Bool, List, [], ◌∷◌, ◌++◌, length, Some}
use Rattle.sandbox_walk.specs.Keeping.{KeepsSandbox}
use Rattle.session.specs.After.{Running, Pengine, Entry, Taken, Given, after, made}
use Rattle.session.specs.Legal.{ArePossible, Holds}
use Rattle.session.specs.Views.{View, Gone, TurnView, IsSeen, spec_seen}

-- the pengine of these entries, over the program and settings of the view
abbrev pub stood : View → List Entry → Pengine
stood v es = after (spec_seen v) es made

-- The session looks as the pengine does after these entries, which it can have.
pub record IsRecord (es : List Entry) (v : View) : Type 0 where
  pub possible : ArePossible (spec_seen v) es made
  pub seen : IsSeen v (stood v es)

-- What holds of every session: its program keeps to the sandbox, and it looks as a pengine does after entries that it can have.
pub record IsRecorded (v : View) : Type 0 where
  pub keeps : KeepsSandbox v.program
  pub entries : List Entry
  pub recorded : IsRecord entries v

-- A call did these entries: whatever entries the session had before, it has these after them now.
pub record Lengthens (es : List Entry) (v w : View) : Type 0 where
  pub program : w.program ≡ v.program
  pub settings : w.settings ≡ v.settings
  pub recorded : (before : List Entry) → IsRecord before v → IsRecord (before ++ es) w

-- The turn is that of the query which runs in p.
pub record IsOwn (p : Pengine) (t : TurnView) (room : ℕ) : Type 0 where
  pub is_out : p.turn ≡ Some room
  pub query : p.state ≡ Running t.query
  pub number : t.number ≡ p.number
  pub steps : t.steps ≡ p.steps
  pub events : t.events ≡ p.events
  pub has_room : t.room ≡ room

-- The turn is out in p: it is that of the query which runs, or its query was broken off since it was taken. Each query that was broken off is older than the one that runs, so the number tells which of the two it is.
pub data IsOut (p : Pengine) (t : TurnView) : Type 0 where
  present : (room : ℕ) → IsOwn p t room → IsOut p t
  lost : Holds t.number p.lost → IsOut p t

-- The turn was taken from this session and is out.
pub record IsTaken (v : View) (t : TurnView) : Type 0 where
  pub program : t.program ≡ v.program
  pub settings : t.settings ≡ v.settings
  pub entries : List Entry
  pub recorded : IsRecord entries v
  pub out : IsOut (stood v entries) t

-- The turn was taken just now: after whatever entries the session had before, and its taking, the turn is out.
pub record Takes (v : View) (t : TurnView) (w : View) : Type 0 where
  pub lengthens : Lengthens (Taken ∷ []) v w
  pub taken : IsTaken w t
  pub out : (before : List Entry) → IsRecord before v → IsOut (stood w (before ++ Taken ∷ [])) t

-- the entry of a turn that has gone and is given back
abbrev pub given_back : TurnView → Gone → (kept : Bool) → Entry
given_back t g kept = Given t.number g.steps (length g.events) g.starved kept

-- A turn was given back: whatever entries the session had before, after which this turn was out, it has the turn's after them now.
pub record GivesBack (v : View) (t : TurnView) (g : Gone) (kept : Bool) (w : View) : Type 0 where
  pub program : w.program ≡ v.program
  pub settings : w.settings ≡ v.settings
  pub recorded : (before : List Entry) → IsRecord before v → IsOut (stood v before) t → IsRecord (before ++ given_back t g kept ∷ []) w
